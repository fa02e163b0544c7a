-- The first lines of what a search is answered. Each ends with a line feed.
use Rattle.std.specs.Prelude.{ℕ, List, [], ◌∷◌, ◌++◌, codes}
use Rattle.std.specs.Fmt.{decimal}

-- how many rounds were made
abbrev pub rounds_line : ℕ → List ℕ
rounds_line rounds = codes "rounds " ++ (decimal rounds ++ 10 ∷ [])

-- the verdict, and how many rounds were made
abbrev pub verdict_lines : List ℕ → ℕ → List ℕ
verdict_lines verdict rounds = verdict ++ (10 ∷ rounds_line rounds)
