-- What an answer of `sphere` tells.
use Rattle.std.specs.Prelude.{◌≡◌, ℕ, List}
use Rattle.std.specs.declared.option.Option.{Option}
use Rattle.anneal_plan.specs.Numbers.{Numbers}
use Rattle.round_run.specs.Reports.{ReportView}
use Rattle.job_answer.specs.Meanings.{Answers}
use Rattle.job_answer.specs.Statuses.{EndsSearch}
use Rattle.job_answer.specs.declared.status.Status.{Status}
use Rattle.job_answer.specs.declared.status.Status.TheVariants.{Yes, No}
use Rattle.job_sphere.specs.Answers.{meaning, TellsObstacle, TellsCertificate, TellsSearch, TellsCycle}

-- at No the text tells an obstacle
abbrev pub NoIsSound : Type 0
NoIsSound = (plan : Numbers) (bytes : List ℕ) (status : Status) (text : List ℕ) (found : Option ReportView) → Answers (meaning plan) bytes status text found → status ≡ No → TellsObstacle bytes text

-- at Yes it is a certificate
abbrev pub YesIsCertified : Type 0
YesIsCertified = (plan : Numbers) (bytes : List ℕ) (status : Status) (text : List ℕ) (found : Option ReportView) → Answers (meaning plan) bytes status text found → status ≡ Yes → TellsCertificate bytes text found

-- at Yes and Undecided a search is reported
abbrev pub VerdictTellsSearch : Type 0
VerdictTellsSearch = (plan : Numbers) (bytes : List ℕ) (status : Status) (text : List ℕ) (found : Option ReportView) → Answers (meaning plan) bytes status text found → EndsSearch status → TellsSearch bytes plan found

-- a closed and strongly connected complex of dimension 1 gets a Yes
abbrev pub CyclesAreDecided : Type 0
CyclesAreDecided = (plan : Numbers) (bytes : List ℕ) (status : Status) (text : List ℕ) (found : Option ReportView) → Answers (meaning plan) bytes status text found → TellsCycle bytes → status ≡ Yes
