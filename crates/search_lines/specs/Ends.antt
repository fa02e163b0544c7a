-- How a job ends that makes searches, and what it reports then.
use Rattle.std.specs.Prelude.{◌≡◌, ◌⊎◌}
use Rattle.job_answer.specs.Statuses.{EndsSearch}
use Rattle.job_answer.specs.declared.status.Status.{Status}
use Rattle.job_answer.specs.declared.status.Status.TheVariants.{Yes, No, Undecided}

-- No, where a fact excludes what is asked, and else Yes or Undecided
abbrev pub MayEnd : Status → Type 0
MayEnd status = (status ≡ No) ⊎ EndsSearch status

-- what is reported with each verdict
pub record Fits {F : Type 0} (nothing : F) (IsReached IsSpent : F → Type 0) (status : Status) (found : F) : Type 0 where
  pub yes : status ≡ Yes → IsReached found
  pub no : status ≡ No → found ≡ nothing
  pub undecided : status ≡ Undecided → IsSpent found
