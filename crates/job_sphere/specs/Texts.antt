-- The texts that `sphere` answers. Each line ends with a line feed.
use Rattle.std.specs.Prelude.{ℕ, List, [], ◌∷◌, ◌++◌, codes}
use Rattle.std.specs.Fmt.{decimal}
use Rattle.cert_text.specs.Statements.{Sphere}
use Rattle.cert_text.specs.Writing.{text_of}
use Rattle.flip_rules.specs.declared.flip.Flip.{Flip}
use Rattle.flip_laws.specs.declared.obstacle.Obstacle.{Obstacle}
use Rattle.flip_laws.specs.declared.obstacle.Obstacle.TheVariants as obstacle
use Rattle.job_answer.specs.Lines.{euler_line, ridge_line, apart_line, clash_line}
use Rattle.search_lines.specs.Lines.{verdict_lines}

-- what the complex lacks
abbrev pub obstacle_line : Obstacle → List ℕ
obstacle_line (obstacle.NotClosed r) = ridge_line r.face r.count
obstacle_line (obstacle.NotStrong a) = apart_line a.first a.other
obstacle_line (obstacle.Euler n) = euler_line n
obstacle_line obstacle.NotOrientable = clash_line

abbrev pub obstacle_text : Obstacle → List ℕ
obstacle_text o = codes "no" ++ (10 ∷ obstacle_line o)

-- after so many rounds, the certificate with these flips
abbrev pub found_text : ℕ → List Flip → List ℕ
found_text rounds flips = verdict_lines (codes "yes") rounds ++ text_of (Sphere flips)

-- after so many rounds, how many flips there are, and how many facets their end has
abbrev pub undecided_text : ℕ → ℕ → ℕ → List ℕ
undecided_text rounds flips facets = verdict_lines (codes "undecided") rounds ++ (codes "flips " ++ (decimal flips ++ (10 ∷ codes "facets " ++ (decimal facets ++ 10 ∷ []))))
