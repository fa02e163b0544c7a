-- What an answer of `make` tells.
use Rattle.std.specs.Prelude.{◌≡◌, ℕ, List}
use Rattle.job_answer.specs.Meanings.{Answers}
use Rattle.job_answer.specs.declared.status.Status.{Status}
use Rattle.job_answer.specs.declared.status.Status.TheVariants.{Yes, No}
use Rattle.job_make.specs.Recipes.{Recipe}
use Rattle.job_make.specs.Answers.{TellsMade, meaning}

-- at Yes the text tells what is made
abbrev pub YesTellsMade : Type 0
YesTellsMade = (r : Recipe) (bytes : List ℕ) (status : Status) (text : List ℕ) → Answers (meaning r) bytes status text tt → status ≡ Yes → TellsMade r text

-- there is no No
abbrev pub NeverSaysNo : Type 0
NeverSaysNo = (r : Recipe) (bytes : List ℕ) (status : Status) (text : List ℕ) → Answers (meaning r) bytes status text tt → status ≡ No → ⊥
