-- Why words that the command takes are refused.
use Rattle.std.proofs.Common.{◌≡◌, subst, List}
use Rattle.std.specs.Prelude.{Result, Err, IfErr}
use Rattle.clap.specs.Words.{Row}
use Rattle.job_words.specs.declared.job.Job.{Job}
use Rattle.job_words.specs.declared.job.UsageFault.{UsageFault}
use Rattle.job_words.specs.Jobs.{IsUnfit}

-- the reason for this fault
pub unfit_by : (result : Result Job UsageFault) (found : List Row) (e : UsageFault) → IfErr result (IsUnfit found) → result ≡ Err e → IsUnfit found e
unfit_by result found e unfit is = subst (λ r. IfErr r (IsUnfit found)) is unfit
