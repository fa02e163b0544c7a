-- What an answer of `trace` tells.
use Rattle.std.specs.Prelude.{◌≡◌, ◌↔◌, ℕ, List}
use Rattle.std.specs.declared.option.Option.{Option}
use Rattle.core_laws.specs.Cores.{Core}
use Rattle.job_answer.specs.Meanings.{Answers}
use Rattle.job_answer.specs.Statuses.{IsDecided}
use Rattle.job_answer.specs.declared.status.Status.{Status}
use Rattle.job_answer.specs.declared.status.Status.TheVariants.{Yes}
use Rattle.job_trace.specs.Answers.{meaning, RunsClean, TellsReport}

-- a Yes is exactly that the bytes tell a clean run
abbrev pub YesIsClean : Type 0
YesIsClean = (bytes : List ℕ) (status : Status) (text : List ℕ) (found : Option Core) → Answers meaning bytes status text found → (status ≡ Yes) ↔ RunsClean bytes

-- at Yes and No the text tells the history of the core that is reported
abbrev pub VerdictTellsHistory : Type 0
VerdictTellsHistory = (bytes : List ℕ) (status : Status) (text : List ℕ) (found : Option Core) → Answers meaning bytes status text found → IsDecided status → TellsReport bytes text found
