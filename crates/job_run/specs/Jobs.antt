-- The jobs: which words ask for each, what it takes of an input, and what it means.
use Rattle.std.specs.Prelude.{◌≡◌, ◌≤◌, ℕ, Bool, true, false, List, [], length, Ok, Some, None}
use Rattle.std.specs.declared.option.Option.{Option}
use Rattle.flip_io.specs.Outcomes.{ReadAllCause, TakesAll}
use Rattle.flip_io.specs.declared.whole.ReadAllFault.{ReadAllFault}
use Rattle.core_laws.specs.Cores.{Core}
use Rattle.anneal_plan.specs.Numbers.{Numbers}
use Rattle.round_run.specs.Reports.{ReportView}
use Rattle.job_words.specs.Jobs.{job_at}
use Rattle.job_words.specs.declared.job.Job.{Job as Asked}
use Rattle.job_words.specs.declared.job.JobName.{JobName}
use Rattle.job_words.specs.declared.job.JobName.TheVariants as name
use Rattle.job_answer.specs.Meanings.{Meaning, reported_as}
use Rattle.job_replay.specs.Answers as replay
use Rattle.job_trace.specs.Answers as trace
use Rattle.job_info.specs.Answers as info
use Rattle.job_iso.specs.Answers as iso
use Rattle.job_sphere.specs.Answers as sphere
use Rattle.job_equiv.specs.Answers as equiv
use Rattle.job_equiv.specs.Answers.{Reports}
use Rattle.job_manifold.specs.Answers as manifold
use Rattle.job_manifold.specs.Answers.{Records}
use Rattle.job_make.specs.Recipes.{Recipe, recipe}
use Rattle.job_make.specs.Answers as make
use Rattle.job_drill.specs.Answers as drill
use Rattle.job_run.specs.declared.job.Job.{Job}
use Rattle.job_run.specs.declared.job.Job.TheVariants as job
use Rattle.job_run.specs.declared.report.JobReport.{JobReport}
use Rattle.job_run.specs.declared.report.JobReport.TheVariants as report

-- ---- which words ask for a job

-- the job of this name, with this plan and this recipe
abbrev pub named : JobName → Numbers → Recipe → Job
named name.Replay plan of = job.Replay
named name.Trace plan of = job.Trace
named name.Info plan of = job.Info
named name.Iso plan of = job.Iso
named name.Sphere plan of = job.Sphere plan
named name.Equiv plan of = job.Equiv plan
named name.Manifold plan of = job.Manifold plan
named name.Make plan of = job.Make of
named name.Drill plan of = job.Drill plan of

-- the seed of what is made is that of the search
abbrev pub recipe_of : Asked → Recipe
recipe_of asked = recipe asked.kind asked.dim asked.draws asked.plan.seed

abbrev pub job_of : Asked → Job
job_of asked = named asked.name asked.plan (recipe_of asked)

-- the words ask for this job, whatever other options they have
pub record IsJob (words : List (List ℕ)) (j : Job) : Type 0 where
  pub asked : Asked
  pub asks : job_at words ≡ Ok asked
  pub is : job_of asked ≡ j

-- the words ask for no job
abbrev pub NamesNoJob : List (List ℕ) → Type 0
NamesNoJob words = (j : Job) → IsJob words j → ⊥

-- the job makes searches, so that it may be undecided
abbrev pub MakesSearches : Job → Type 0
MakesSearches job.Replay = ⊥
MakesSearches job.Trace = ⊥
MakesSearches job.Info = ⊥
MakesSearches job.Iso = ⊥
MakesSearches (job.Sphere plan) = Unit {0}
MakesSearches (job.Equiv plan) = Unit {0}
MakesSearches (job.Manifold plan) = Unit {0}
MakesSearches (job.Make of) = ⊥
MakesSearches (job.Drill plan of) = Unit {0}

-- the words ask for such a job
pub record AsksForSearches (words : List (List ℕ)) : Type 0 where
  pub job : Job
  pub named : IsJob words job
  pub searches : MakesSearches job

-- ---- which jobs take an input

-- what a job takes of the bytes of an input: all of them, or none
abbrev pub taken_by : Job → List ℕ → List ℕ
taken_by job.Replay bytes = bytes
taken_by job.Trace bytes = bytes
taken_by job.Info bytes = bytes
taken_by job.Iso bytes = bytes
taken_by (job.Sphere plan) bytes = bytes
taken_by (job.Equiv plan) bytes = bytes
taken_by (job.Manifold plan) bytes = bytes
taken_by (job.Make of) bytes = []
taken_by (job.Drill plan of) bytes = []

abbrev pub takes_input : Job → Bool
takes_input job.Replay = true
takes_input job.Trace = true
takes_input job.Info = true
takes_input job.Iso = true
takes_input (job.Sphere plan) = true
takes_input (job.Equiv plan) = true
takes_input (job.Manifold plan) = true
takes_input (job.Make of) = false
takes_input (job.Drill plan of) = false

-- the most bytes that it may have then
abbrev pub input_limit : Job → Option ℕ
input_limit job.Replay = Some replay.meaning.limit
input_limit job.Trace = Some trace.meaning.limit
input_limit job.Info = Some info.meaning.limit
input_limit job.Iso = Some iso.meaning.limit
input_limit (job.Sphere plan) = Some (sphere.meaning plan).limit
input_limit (job.Equiv plan) = Some (equiv.meaning plan).limit
input_limit (job.Manifold plan) = Some (manifold.meaning plan).limit
input_limit (job.Make of) = None
input_limit (job.Drill plan of) = None

-- all bytes that were left are taken, at most so many; or none are
abbrev pub TakesUpTo : Option ℕ → Option (List ℕ) → Option (List ℕ) → List ℕ → Type 0
TakesUpTo (Some most) old new bytes = TakesAll old new bytes × (length bytes ≤ most)
TakesUpTo None old new bytes = bytes ≡ []

-- why it failed: reading the bytes did, for one of its causes
abbrev pub FailsUpTo : Option ℕ → ℕ → ℕ → Option (List ℕ) → Option (List ℕ) → ReadAllFault → Type 0
FailsUpTo (Some most) before now old new failed = ReadAllCause most before now old new failed
FailsUpTo None before now old new failed = ⊥

-- the words ask for no job that takes an input
abbrev pub TakesNothing : List (List ℕ) → Type 0
TakesNothing words = (j : Job) → IsJob words j → takes_input j ≡ false

-- ---- what a job means

-- how the report of one job is seen among those of all
abbrev pub of_nothing : Unit {0} → JobReport
of_nothing found = report.Nothing

abbrev pub of_trace : Option Core → JobReport
of_trace None = report.Nothing
of_trace (Some last) = report.Trace last

abbrev pub of_sphere : Option ReportView → JobReport
of_sphere None = report.Nothing
of_sphere (Some r) = report.Sphere r

abbrev pub of_equal : Option Reports → JobReport
of_equal None = report.Nothing
of_equal (Some r) = report.Equal r.0 r.1

abbrev pub of_links : Option Records → JobReport
of_links None = report.Nothing
of_links (Some left) = report.Links left

-- What each job means: its crate says it.
abbrev pub meaning_of : Job → Meaning JobReport
meaning_of job.Replay = reported_as of_nothing replay.meaning
meaning_of job.Trace = reported_as of_trace trace.meaning
meaning_of job.Info = reported_as of_nothing info.meaning
meaning_of job.Iso = reported_as of_nothing iso.meaning
meaning_of (job.Sphere plan) = reported_as of_sphere (sphere.meaning plan)
meaning_of (job.Equiv plan) = reported_as of_equal (equiv.meaning plan)
meaning_of (job.Manifold plan) = reported_as of_links (manifold.meaning plan)
meaning_of (job.Make of) = reported_as of_nothing (make.meaning of)
meaning_of (job.Drill plan of) = reported_as of_sphere (drill.meaning of plan)

-- the most bytes of an input
abbrev pub limit_of : Job → ℕ
limit_of j = (meaning_of j).limit
