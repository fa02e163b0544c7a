-- What an answer of `replay` tells.
use Rattle.std.specs.Prelude.{◌≡◌, ◌↔◌, ℕ, List}
use Rattle.job_answer.specs.Meanings.{Answers}
use Rattle.job_answer.specs.declared.status.Status.{Status}
use Rattle.job_answer.specs.declared.status.Status.TheVariants.{Yes}
use Rattle.job_replay.specs.Answers.{meaning, TellsCertified}

-- a Yes is exactly that the bytes tell a certificate that shows what it states
abbrev pub YesIsCertified : Type 0
YesIsCertified = (bytes : List ℕ) (status : Status) (text : List ℕ) → Answers meaning bytes status text tt → (status ≡ Yes) ↔ TellsCertified bytes
