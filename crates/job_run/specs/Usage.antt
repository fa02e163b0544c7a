-- The line that words get which ask for no job.
use Rattle.std.specs.Prelude.{ℕ, List, [], ◌∷◌, ◌++◌, codes}

abbrev pub usage_line : List ℕ
usage_line = codes "usage: bistellar JOB [--workers N] [--seed N] [--rounds N] [--tries N] [--heat N] [--relax N] [--depth N] [--room N] [--kind NAME] [--dim N] [--draws N]" ++ 10 ∷ []
