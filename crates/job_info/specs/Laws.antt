-- What an answer of `info` tells.
use Rattle.std.specs.Prelude.{◌≡◌, ℕ, List}
use Rattle.job_answer.specs.Meanings.{Answers}
use Rattle.job_answer.specs.declared.status.Status.{Status}
use Rattle.job_answer.specs.declared.status.Status.TheVariants.{Yes, No}
use Rattle.job_info.specs.Answers.{meaning, TellsFacts}

-- at Yes the bytes tell a complex, and the text describes it
abbrev pub YesTellsFacts : Type 0
YesTellsFacts = (bytes : List ℕ) (status : Status) (text : List ℕ) → Answers meaning bytes status text tt → status ≡ Yes → TellsFacts bytes text

-- there is no No
abbrev pub NeverSaysNo : Type 0
NeverSaysNo = (bytes : List ℕ) (status : Status) (text : List ℕ) → Answers meaning bytes status text tt → status ≡ No → ⊥
