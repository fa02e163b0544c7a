-- The five lines that `drill` answers. Each ends with a line feed.
use Rattle.std.specs.Prelude.{ℕ, List, [], ◌∷◌, ◌++◌, codes, length}
use Rattle.std.specs.Fmt.{decimal}
use Rattle.round_run.specs.Reports.{ReportView}
use Rattle.round_run.specs.declared.search.SphereFound.TheVariants.{Sphere, Undecided}
use Rattle.report_text.specs.Shown.{told_flips}
use Rattle.job_sphere.specs.declared.decision.Decision.{Decision}
use Rattle.job_sphere.specs.declared.decision.Decision.TheVariants.{Excluded, Searched}

-- a word, and what it tells
abbrev pub line : List ℕ → List ℕ → List ℕ
line word value = word ++ (value ++ 10 ∷ [])

-- how many facets the complex has, the verdict, how many rounds were made, how many flips were found, and how many facets their end has
abbrev pub lines : ℕ → List ℕ → ℕ → ℕ → ℕ → List ℕ
lines facets verdict rounds flips end =
    line (codes "facets ") (decimal facets)
    ++ (line (codes "verdict ") verdict
    ++ (line (codes "rounds ") (decimal rounds)
    ++ (line (codes "flips ") (decimal flips)
    ++ line (codes "end ") (decimal end))))

-- of a search
abbrev pub searched : ℕ → List ℕ → ReportView → List ℕ
searched facets verdict r = lines facets verdict (length r.rounds) (length (told_flips r)) (length r.end.facets)

-- of a complex with so many facets. Where a fact excludes a sphere nothing is searched
abbrev pub summary : ℕ → Decision → List ℕ
summary facets (Excluded o) = lines facets (codes "no") 0 0 facets
summary facets (Searched (Sphere r)) = searched facets (codes "yes") r
summary facets (Searched (Undecided r)) = searched facets (codes "undecided") r
