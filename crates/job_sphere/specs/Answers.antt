-- What the job `sphere` answers.
use Rattle.std.specs.Prelude.{◌≡◌, ◌⊎◌, ◌≤◌, ℕ, List, length, Ok, Some, None}
use Rattle.std.specs.declared.option.Option.{Option}
use Rattle.complex_core.specs.Complexes.{ComplexView}
use Rattle.flip_rules.specs.Certificates.{SphereCert}
use Rattle.flip_rules.specs.declared.flip.Flip.{Flip}
use Rattle.flip_laws.specs.Obstacles.{IsObstacle, NeverReaches, LooksLikeSphere}
use Rattle.flip_laws.specs.declared.obstacle.Obstacle.{Obstacle}
use Rattle.descent_laws.specs.Descents.{IsMinimal}
use Rattle.descent_laws.specs.Laws.{IsCycle}
use Rattle.anneal_plan.specs.Numbers.{Numbers}
use Rattle.cert_text.specs.Statements.{Sphere}
use Rattle.sphere_text.specs.Texts.{certified}
use Rattle.round_run.specs.Reports.{ReportView, ReportOk, IsSphere, IsUndecided}
use Rattle.report_text.specs.Shown.{told_flips, IsReported}
use Rattle.job_answer.specs.Alone.{complex_of}
use Rattle.job_answer.specs.Meanings.{Meaning, by}
use Rattle.job_answer.specs.Statuses.{EndsSearch}
use Rattle.job_answer.specs.declared.status.Status.{Status}
use Rattle.job_answer.specs.declared.status.Status.TheVariants.{Yes, No, Undecided}
use Rattle.job_replay.specs.Answers.{TellsCertified}
use Rattle.search_lines.specs.Ends.{Fits, MayEnd}
use Rattle.job_sphere.specs.Texts.{obstacle_text, found_text, undecided_text}

-- ---- the answer to a complex

-- No, with the first fact of a sphere that the complex lacks. No list of legal flips leads from it to the boundary of a simplex
pub record IsObstructed (complex : ComplexView) (status : Status) (text : List ℕ) (found : Option ReportView) : Type 0 where
  pub is_no : status ≡ No
  pub obstacle : Obstacle
  pub first : IsObstacle complex obstacle
  pub says : text ≡ obstacle_text obstacle
  pub never : NeverReaches complex
  pub reports : found ≡ None

-- Yes, where a descent of the search ended in the boundary of a simplex: its flips in the labels of the complex
pub record ReachesSphere (complex : ComplexView) (plan : Numbers) (r : ReportView) (status : Status) (text : List ℕ) : Type 0 where
  pub is_yes : status ≡ Yes
  pub sphere : IsSphere complex plan r
  pub says : text ≡ found_text (length r.rounds) (told_flips r)

-- Undecided, where all rounds were made and no descent did
pub record StaysApart (complex : ComplexView) (plan : Numbers) (r : ReportView) (status : Status) (text : List ℕ) : Type 0 where
  pub is_undecided : status ≡ Undecided
  pub spent : IsUndecided complex plan r
  pub says : text ≡ undecided_text (length r.rounds) (length (told_flips r)) (length r.end.facets)

abbrev pub ComesTo : ComplexView → Numbers → ReportView → Status → List ℕ → Type 0
ComesTo complex plan r status text = ReachesSphere complex plan r status text ⊎ StaysApart complex plan r status text

-- a search from the complex by the plan, which is reported, comes to this
pub record Searches (complex : ComplexView) (plan : Numbers) (status : Status) (text : List ℕ) (found : Option ReportView) : Type 0 where
  pub report : ReportView
  pub reports : found ≡ Some report
  pub comes : ComesTo complex plan report status text

-- what a search from the complex shows. Whatever the schedule of the workers was, the journal that is reported is one legal
-- history: its flips, descent 0, round 0, descent 1, .., are legal in order from the complex on its places, and lead to the
-- reported end, on which no legal flip has an index above d/2; and in each round the entries of each worker are those that it
-- committed, whole, once and in order (`RoundOk` within `ReportOk`)
pub record ShowsHistory (complex : ComplexView) (plan : Numbers) (r : ReportView) : Type 0 where
  pub ok : ReportOk complex plan r
  pub shown : IsReported complex plan r
  pub minimal : IsMinimal r.end

-- the text is a certificate of the complex, with the flips of the search, in the labels of the complex; and this complex with
-- the certificate behind it is an input of `replay` that tells a sphere: what it states is that these flips lead to one, and
-- that is shown
pub record IsCertificate (complex : ComplexView) (r : ReportView) (text : List ℕ) : Type 0 where
  pub flips : List Flip
  pub flips_are : flips ≡ told_flips r
  pub says : text ≡ found_text (length r.rounds) flips
  pub shows : SphereCert complex flips
  pub valid : TellsCertified (certified complex flips)
  pub of_sphere : valid.statement ≡ Sphere flips

-- the complex lacks no fact of a sphere, and a search from it comes to this
pub record IsSearched (complex : ComplexView) (plan : Numbers) (status : Status) (text : List ℕ) (found : Option ReportView) : Type 0 where
  pub looks : LooksLikeSphere complex
  pub search : Searches complex plan status text found
  pub history : ShowsHistory complex plan search.report
  pub certificate : status ≡ Yes → IsCertificate complex search.report text

abbrev pub IsSphereAnswer : Numbers → ComplexView → Status → List ℕ → Option ReportView → Type 0
IsSphereAnswer plan complex status text found = IsObstructed complex status text found ⊎ IsSearched complex plan status text found

-- ---- what is told of the bytes

-- this is the first fact of a sphere that the complex of the bytes lacks, and no list of legal flips leads from it to the
-- boundary of a simplex
pub record TellsObstacle (bytes text : List ℕ) : Type 0 where
  pub complex : ComplexView
  pub input : complex_of bytes ≡ Ok complex
  pub obstacle : Obstacle
  pub first : IsObstacle complex obstacle
  pub says : text ≡ obstacle_text obstacle
  pub never : NeverReaches complex

-- the bytes tell a complex that lacks no such fact, and a search from it by the plan is reported
pub record TellsSearch (bytes : List ℕ) (plan : Numbers) (found : Option ReportView) : Type 0 where
  pub complex : ComplexView
  pub input : complex_of bytes ≡ Ok complex
  pub looks : LooksLikeSphere complex
  pub report : ReportView
  pub reports : found ≡ Some report
  pub history : ShowsHistory complex plan report

-- the text is a certificate of the complex of the bytes, with the flips of the search that is reported
pub record TellsCertificate (bytes text : List ℕ) (found : Option ReportView) : Type 0 where
  pub complex : ComplexView
  pub input : complex_of bytes ≡ Ok complex
  pub report : ReportView
  pub reports : found ≡ Some report
  pub certificate : IsCertificate complex report text

-- the bytes tell a closed and strongly connected complex of dimension 1
pub record TellsCycle (bytes : List ℕ) : Type 0 where
  pub short : length bytes ≤ 4194304
  pub complex : ComplexView
  pub input : complex_of bytes ≡ Ok complex
  pub cycle : IsCycle complex

-- The headline of `sphere`: a Yes and an Undecided report a search, and a Yes prints its certificate
pub record ShowsSearch (plan : Numbers) (bytes : List ℕ) (status : Status) (text : List ℕ) (found : Option ReportView) : Type 0 where
  pub told : EndsSearch status → TellsSearch bytes plan found
  pub certificate : status ≡ Yes → TellsCertificate bytes text found

-- ---- what is reported

-- a search by the plan, the last descent of which ended in the boundary of a simplex, and none before it
pub record ReportsSphere (plan : Numbers) (found : Option ReportView) : Type 0 where
  pub report : ReportView
  pub reports : found ≡ Some report
  pub sphere : IsSphere report.input plan report

-- a search by the plan that made all rounds, and no descent of which ended in the boundary of a simplex
pub record ReportsSpent (plan : Numbers) (found : Option ReportView) : Type 0 where
  pub report : ReportView
  pub reports : found ≡ Some report
  pub spent : IsUndecided report.input plan report

-- what is reported with each verdict
abbrev pub FitsSphere : Numbers → Status → Option ReportView → Type 0
FitsSphere plan = Fits None (ReportsSphere plan) (ReportsSpent plan)

-- Of at most 4,194,304 bytes a complex is read, and judged or searched. The verdicts are Yes, No and Undecided, and a search is
-- reported.
abbrev pub meaning : Numbers → Meaning (Option ReportView)
meaning plan = record {
  limit = 4194304;
  Input = ComplexView;
  reads = by complex_of;
  answers = IsSphereAnswer plan;
  nothing = None;
  may_end = MayEnd;
  fits = FitsSphere plan;
  is_fixed = plan.rounds ≡ 0;
  headline = ShowsSearch plan;
}
