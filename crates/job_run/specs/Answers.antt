-- What the top call answers to words and an input.
use Rattle.std.specs.Prelude.{◌≡◌, ◌⊎◌, ℕ, List}
use Rattle.std.specs.declared.option.Option.{Option}
use Rattle.std.specs.Io.KnownBytes.{Appends}
use Rattle.flip_io.specs.Outcomes.{AppendsPrefix}
use Rattle.round_run.specs.Gates.{all_quits_at}
use Rattle.equal_search.specs.Comparing.{quits_of_both}
use Rattle.link_check.specs.LinkSearches.{all_quits}
use Rattle.job_answer.specs.Meanings.{Answers, IsInput as IsInputOf, Same}
use Rattle.job_answer.specs.declared.status.Status.{Status}
use Rattle.job_answer.specs.declared.status.Status.TheVariants.{Yes, No, Undecided, Usage, BadInput, ReadFault, WriteFault, NoMemory}
use Rattle.job_run.specs.Usage.{usage_line}
use Rattle.job_run.specs.Jobs.{IsJob, NamesNoJob, meaning_of, taken_by}
use Rattle.job_run.specs.declared.job.Job.{Job}
use Rattle.job_run.specs.declared.report.JobReport.{JobReport}
use Rattle.job_run.specs.declared.report.JobReport.TheVariants as report

-- ---- the answer, before it is written

-- the words ask for no job: the usage line, and no report
pub record IsUsage (words : List (List ℕ)) (status : Status) (text : List ℕ) (found : JobReport) : Type 0 where
  pub is_usage : status ≡ Usage
  pub other : NamesNoJob words
  pub says : text ≡ usage_line
  pub reports : found ≡ report.Nothing

-- they ask for a job, which answers so
pub record IsJobAnswer (words : List (List ℕ)) (bytes : List ℕ) (status : Status) (text : List ℕ) (found : JobReport) : Type 0 where
  pub job : Job
  pub named : IsJob words job
  pub answer : Answers (meaning_of job) (taken_by job bytes) status text found

abbrev pub IsAnswer : List (List ℕ) → List ℕ → Status → List ℕ → JobReport → Type 0
IsAnswer words bytes status text found = IsUsage words status text found ⊎ IsJobAnswer words bytes status text found

-- what is written of an answer that a verdict stands behind: the headline of its job
abbrev pub Headline : Job → List ℕ → Status → List ℕ → JobReport → Type 0
Headline j bytes = (meaning_of j).headline (taken_by j bytes)

-- the bytes are an input of the job; any are for one that takes none
abbrev pub IsInput : Job → List ℕ → Type 0
IsInput j bytes = IsInputOf (meaning_of j) (taken_by j bytes)

-- a verdict of the job
abbrev pub MayEnd : Job → Status → Type 0
MayEnd j = (meaning_of j).may_end

-- what the job reports with a verdict
abbrev pub FitsJob : Job → Status → JobReport → Type 0
FitsJob j = (meaning_of j).fits

-- ---- laws

-- the words ask for a job whose inputs have one answer each, as `sphere`, `equiv` and `drill` have without rounds, and `manifold` isn't said to have
abbrev pub Determined : List (List ℕ) → Type 0
Determined words = (j : Job) → IsJob words j → (meaning_of j).is_fixed

-- such words and the input determine status, text and report
abbrev pub AnswerIsOne : Type 0
AnswerIsOne = (words : List (List ℕ)) (bytes : List ℕ) (s t : Status) (xs ys : List ℕ) (p q : JobReport) → Determined words → IsAnswer words bytes s xs p → IsAnswer words bytes t ys q → Same s t xs ys p q

-- an answer to words that ask for a job is that job's
abbrev pub AnswerIsOfJob : Type 0
AnswerIsOfJob = (words : List (List ℕ)) (bytes : List ℕ) (j : Job) (s : Status) (xs : List ℕ) (p : JobReport) → IsJob words j → IsAnswer words bytes s xs p → Answers (meaning_of j) (taken_by j bytes) s xs p

-- ---- what an answer says of the words alone

-- a verdict of the job, with a report that fits
pub record IsVerdict (j : Job) (status : Status) (found : JobReport) : Type 0 where
  pub ends : MayEnd j status
  pub fits : FitsJob j status found

pub record IsBad (status : Status) (found : JobReport) : Type 0 where
  pub is_bad : status ≡ BadInput
  pub reports : found ≡ report.Nothing

abbrev pub EndsJob : Job → Status → JobReport → Type 0
EndsJob j status found = IsVerdict j status found ⊎ IsBad status found

pub record IsOfJob (words : List (List ℕ)) (status : Status) (found : JobReport) : Type 0 where
  pub job : Job
  pub named : IsJob words job
  pub ends : EndsJob job status found

abbrev pub FitsWords : List (List ℕ) → Status → List ℕ → JobReport → Type 0
FitsWords words status text found = IsUsage words status text found ⊎ IsOfJob words status found

-- how many quits of each worker are reported, counted from 0
abbrev pub quits_of : JobReport → ℕ → ℕ
quits_of report.Nothing = λ i. 0
quits_of (report.Trace last) = λ i. 0
quits_of (report.Sphere r) = all_quits_at r.rounds
quits_of (report.Equal r s) = quits_of_both r s
quits_of (report.Links left) = all_quits (λ r. all_quits_at r.rounds) left.items

-- ---- what was written

-- an answer that was written whole
abbrev pub IsWritten : Status → Type 0
IsWritten Yes = Unit {0}
IsWritten No = Unit {0}
IsWritten Undecided = Unit {0}
IsWritten Usage = Unit {0}
IsWritten BadInput = Unit {0}
IsWritten ReadFault = ⊥
IsWritten WriteFault = ⊥
IsWritten NoMemory = ⊥

-- what other words may end with
abbrev pub RefusesWords : Status → Type 0
RefusesWords status = (status ≡ Usage) ⊎ ((status ≡ WriteFault) ⊎ (status ≡ NoMemory))

abbrev pub WritesNothing : Status → Type 0
WritesNothing status = (status ≡ ReadFault) ⊎ (status ≡ NoMemory)

-- an answer that no verdict stands behind
abbrev pub ReportsNothing : Status → Type 0
ReportsNothing status = (status ≡ Usage) ⊎ ((status ≡ BadInput) ⊎ WritesNothing status)

-- a text with P was appended
abbrev pub Answered : Option (List ℕ) → Option (List ℕ) → (List ℕ → Type 0) → Type 0
Answered old new P = (text : List ℕ) × P text × Appends old new text

-- the first bytes of the answer of some status were appended
pub record BegunWith (old new : Option (List ℕ)) (P : Status → List ℕ → Type 0) : Type 0 where
  pub status : Status
  pub text : List ℕ
  pub answers : P status text
  pub begun : AppendsPrefix old new text
