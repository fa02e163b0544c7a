-- What the job `drill` answers.
use Rattle.std.specs.Prelude.{◌≡◌, ℕ, List, length, Ok, Some, None}
use Rattle.std.specs.declared.option.Option.{Option}
use Rattle.anneal_plan.specs.Numbers.{Numbers, numbers}
use Rattle.round_run.specs.Reports.{ReportView}
use Rattle.job_answer.specs.Meanings.{Meaning}
use Rattle.job_answer.specs.Statuses.{EndsSearch}
use Rattle.job_answer.specs.declared.status.Status.{Status}
use Rattle.job_make.specs.Recipes.{Recipe, LooksNamed, made}
use Rattle.search_lines.specs.Ends.{MayEnd}
use Rattle.job_sphere.specs.Decisions.{Decides, report_in, status_of}
use Rattle.job_sphere.specs.Answers.{FitsSphere, ShowsHistory}
use Rattle.job_sphere.specs.declared.decision.Decision.{Decision}
use Rattle.job_drill.specs.Texts.{summary}

-- the same plan for one worker
abbrev pub alone : Numbers → Numbers
alone n = numbers n.seed 1 n.rounds n.tries n.heat n.relax n.depth n.room

-- a search from the complex that was made is reported, by one worker, and its journal is one legal history
pub record TellsSearch (r : Recipe) (plan : Numbers) (found : Option ReportView) : Type 0 where
  pub report : ReportView
  pub reports : found ≡ Some report
  pub history : ShowsHistory (made r) (alone plan) report

-- what `sphere` finds of the complex with one worker, in five lines
pub record IsDrilled (r : Recipe) (plan : Numbers) (status : Status) (text : List ℕ) (found : Option ReportView) : Type 0 where
  pub looks : LooksNamed r
  pub decision : Decision
  pub decides : Decides (made r) (alone plan) decision
  pub status_is : status ≡ status_of decision
  pub says : text ≡ summary (length (made r).facets) decision
  pub reports : found ≡ report_in decision
  pub told : EndsSearch status → TellsSearch r plan found

-- No byte is taken, and nothing is told by them. The verdicts are Yes, No and Undecided, and a search is reported.
abbrev pub meaning : Recipe → Numbers → Meaning (Option ReportView)
meaning r plan = record {
  limit = 0;
  Input = Unit {0};
  reads = λ bytes told. Ok tt ≡ told;
  answers = λ told. IsDrilled r plan;
  nothing = None;
  may_end = MayEnd;
  fits = FitsSphere (alone plan);
  is_fixed = plan.rounds ≡ 0;
  headline = λ bytes status text found. EndsSearch status → TellsSearch r plan found;
}
