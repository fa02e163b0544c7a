-- What an answer of `drill` tells.
use Rattle.std.specs.Prelude.{◌≡◌, ℕ, List, Some}
use Rattle.std.specs.declared.option.Option.{Option}
use Rattle.flip_rules.specs.Certificates.{SphereCert}
use Rattle.flip_laws.specs.Obstacles.{NeverReaches}
use Rattle.anneal_plan.specs.Numbers.{Numbers}
use Rattle.round_run.specs.Reports.{ReportView}
use Rattle.report_text.specs.Shown.{told_flips}
use Rattle.job_answer.specs.Meanings.{Answers}
use Rattle.job_answer.specs.Statuses.{EndsSearch}
use Rattle.job_answer.specs.declared.status.Status.{Status}
use Rattle.job_answer.specs.declared.status.Status.TheVariants.{Yes, No}
use Rattle.job_make.specs.Recipes.{Recipe, made}
use Rattle.job_drill.specs.Answers.{TellsSearch, meaning}

-- at No no list of legal flips leads from the complex that was made to the boundary of a simplex
abbrev pub NoIsSound : Type 0
NoIsSound = (r : Recipe) (plan : Numbers) (bytes : List ℕ) (status : Status) (text : List ℕ) (found : Option ReportView) → Answers (meaning r plan) bytes status text found → status ≡ No → NeverReaches (made r)

-- the flips of the search that is reported lead there
pub record TellsSphere (r : Recipe) (found : Option ReportView) : Type 0 where
  pub report : ReportView
  pub reports : found ≡ Some report
  pub shows : SphereCert (made r) (told_flips report)

abbrev pub YesReaches : Type 0
YesReaches = (r : Recipe) (plan : Numbers) (bytes : List ℕ) (status : Status) (text : List ℕ) (found : Option ReportView) → Answers (meaning r plan) bytes status text found → status ≡ Yes → TellsSphere r found

-- at Yes and Undecided a search is reported
abbrev pub VerdictTellsSearch : Type 0
VerdictTellsSearch = (r : Recipe) (plan : Numbers) (bytes : List ℕ) (status : Status) (text : List ℕ) (found : Option ReportView) → Answers (meaning r plan) bytes status text found → EndsSearch status → TellsSearch r plan found
