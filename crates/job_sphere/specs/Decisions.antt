-- What is found of a complex: a fact of a sphere that it lacks, or what a search from it came to.
use Rattle.std.specs.Prelude.{◌≡◌, ℕ, List, length, Some, None}
use Rattle.std.specs.declared.option.Option.{Option}
use Rattle.complex_core.specs.Complexes.{ComplexView}
use Rattle.flip_laws.specs.Obstacles.{IsObstacle, NeverReaches, LooksLikeSphere}
use Rattle.anneal_plan.specs.Numbers.{Numbers}
use Rattle.round_run.specs.Gates.{all_quits_at}
use Rattle.round_run.specs.Reports.{ReportView}
use Rattle.round_run.specs.Found.{IsFound}
use Rattle.round_run.specs.declared.search.SphereFound.TheVariants.{Sphere, Undecided}
use Rattle.report_text.specs.Shown.{told_flips}
use Rattle.job_answer.specs.declared.status.Status.{Status}
use Rattle.job_answer.specs.declared.status.Status.TheVariants.{Yes, No}
use Rattle.job_answer.specs.declared.status.Status.TheVariants as status
use Rattle.job_sphere.specs.Texts.{obstacle_text, found_text, undecided_text}
use Rattle.job_sphere.specs.declared.decision.Decision.{Decision}
use Rattle.job_sphere.specs.declared.decision.Decision.TheVariants.{Excluded, Searched}

-- the first fact that the complex lacks, so that no list of legal flips leads from it to the boundary of a simplex; or it lacks none, and a search by the plan found this
abbrev pub Decides : ComplexView → Numbers → Decision → Type 0
Decides k plan (Excluded o) = IsObstacle k o × NeverReaches k
Decides k plan (Searched found) = LooksLikeSphere k × IsFound k plan found

-- the search that was made
abbrev pub report_in : Decision → Option ReportView
report_in (Excluded o) = None
report_in (Searched (Sphere r)) = Some r
report_in (Searched (Undecided r)) = Some r

-- how many quits of each worker are reported, counted from 0
abbrev pub quits_of : Option ReportView → ℕ → ℕ
quits_of None = λ i. 0
quits_of (Some r) = all_quits_at r.rounds

abbrev pub quits_in : Decision → ℕ → ℕ
quits_in d = quits_of (report_in d)

-- ---- how it is told

abbrev pub status_of : Decision → Status
status_of (Excluded o) = No
status_of (Searched (Sphere r)) = Yes
status_of (Searched (Undecided r)) = status.Undecided

abbrev pub text_of : Decision → List ℕ
text_of (Excluded o) = obstacle_text o
text_of (Searched (Sphere r)) = found_text (length r.rounds) (told_flips r)
text_of (Searched (Undecided r)) = undecided_text (length r.rounds) (length (told_flips r)) (length r.end.facets)

-- the status, the text and the report are those of the decision
pub record Tells (d : Decision) (status : Status) (text : List ℕ) (found : Option ReportView) : Type 0 where
  pub status_is : status ≡ status_of d
  pub says : text ≡ text_of d
  pub reports : found ≡ report_in d
