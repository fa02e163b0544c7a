-- What the job `manifold` answers.
use Rattle.std.specs.Prelude.{◌≡◌, ◌⊎◌, ◌≤◌, ℕ, List, length, map, Ok, Some, None}
use Rattle.std.specs.List.{AllByRecursion}
use Rattle.std.specs.Global.{Vec}
use Rattle.std.specs.declared.option.Option.{Option}
use Rattle.complex_core.specs.Complexes.{ComplexView}
use Rattle.complex_core.specs.Links.{link}
use Rattle.pseudo_test.specs.Ridges.{Closed, IsLeastOther}
use Rattle.flip_laws.specs.Obstacles.{NeverReaches}
use Rattle.link_check.specs.BadLinks.{IsLeastBad, NoneIsBad}
use Rattle.link_check.specs.LinkSearches.{LeavesOpen, ShowsLinks, all_quits}
use Rattle.link_check.specs.Vertices.{vertex_link}
use Rattle.link_check.specs.declared.bad.BadLink.{BadLink}
use Rattle.descent_laws.specs.Descents.{IsMinimal}
use Rattle.cert_text.specs.Statements.{OfVertex, Manifold}
use Rattle.cert_replay.specs.Answers.{ManifoldCert}
use Rattle.anneal_plan.specs.Numbers.{Numbers}
use Rattle.round_run.specs.Gates.{all_quits_at}
use Rattle.round_run.specs.Reports.{ReportView, ReportOk, IsUndecided}
use Rattle.report_text.specs.Shown.{IsReported}
use Rattle.job_answer.specs.Alone.{complex_of}
use Rattle.job_answer.specs.Meanings.{Meaning, by}
use Rattle.job_answer.specs.declared.status.Status.{Status}
use Rattle.job_answer.specs.declared.status.Status.TheVariants.{Yes, No, Undecided}
use Rattle.job_replay.specs.Answers.{TellsCertified}
use Rattle.search_lines.specs.Ends.{Fits, MayEnd}
use Rattle.job_manifold.specs.Texts.{bad_text, certified, found_text, open_text, unclosed_text}

-- for some vertices, the report of the search of the link
abbrev pub Records : Type 0
Records = Vec (ℕ × ReportView)

-- ---- the answer to a complex

-- No, with the least ridge that doesn't lie in two facets
pub record IsNotClosed (complex : ComplexView) (status : Status) (text : List ℕ) (found : Option Records) : Type 0 where
  pub is_no : status ≡ No
  pub ridge : List ℕ
  pub number : ℕ
  pub least : IsLeastOther complex.facets ridge number
  pub says : text ≡ unclosed_text ridge number
  pub reports : found ≡ None

-- No, with the least face whose link lacks a fact of a sphere. No list of legal flips leads that link to the boundary of a simplex
pub record HasBadLink (complex : ComplexView) (status : Status) (text : List ℕ) (found : Option Records) : Type 0 where
  pub is_no : status ≡ No
  pub closed : Closed complex.facets
  pub bad : BadLink
  pub least : IsLeastBad complex bad
  pub says : text ≡ bad_text bad
  pub never : NeverReaches (link complex bad.face)
  pub reports : found ≡ None

-- each ridge lies in two facets, and each link of a face has the facts of a sphere
pub record LooksLikeManifold (complex : ComplexView) : Type 0 where
  pub closed : Closed complex.facets
  pub good : NoneIsBad complex

-- Yes, with flips for each vertex that lead its link to the boundary of a simplex
pub record ShowsAll (complex : ComplexView) (status : Status) (text : List ℕ) (found : Option Records) : Type 0 where
  pub is_yes : status ≡ Yes
  pub lists : List OfVertex
  pub shown : ShowsLinks complex lists
  pub says : text ≡ found_text lists
  pub reports : found ≡ None

-- each of these reports is one of a search of the link that made all rounds of the plan, and no descent of which ended in the
-- boundary of a simplex; for each other vertex there are flips
abbrev pub StaysOpen : ComplexView → Numbers → List (ℕ × ReportView) → Type 0
StaysOpen complex plan left = LeavesOpen complex (λ k r. IsUndecided k plan r) left

-- Undecided, with the vertices whose links no search led there
pub record LeavesSome (complex : ComplexView) (plan : Numbers) (status : Status) (text : List ℕ) (found : Option Records) : Type 0 where
  pub is_undecided : status ≡ Undecided
  pub left : Records
  pub stays : StaysOpen complex plan left.items
  pub says : text ≡ open_text (map (λ p. p.0) left.items)
  pub reports : found ≡ Some left

-- searches of the links of all vertices come to this
abbrev pub Searches : ComplexView → Numbers → Status → List ℕ → Option Records → Type 0
Searches complex plan status text found = ShowsAll complex status text found ⊎ LeavesSome complex plan status text found

-- the text is a certificate of the complex: its lists are those of exactly the vertices, and each leads the link of its vertex to
-- the boundary of a simplex; and this complex with the certificate behind it, where that text isn't too long for `replay`, is an
-- input of it that tells a manifold
pub record IsCertificate (complex : ComplexView) (lists : List OfVertex) (text : List ℕ) : Type 0 where
  pub says : text ≡ found_text lists
  pub shows : ManifoldCert complex lists
  pub valid : length (certified complex lists) ≤ 268435456 → (c : TellsCertified (certified complex lists)) × (c.start ≡ complex) × (c.statement ≡ Manifold lists)

-- what a search of a link shows. Whatever the schedule of the workers was, the journal that is reported is one legal history: its
-- flips, descent 0, round 0, descent 1, .., are legal in order from the link on its places, and lead to the reported end, on which
-- no legal flip has an index above half the dimension; and in each round the entries of each worker are those that it committed,
-- whole, once and in order (`RoundOk` within `ReportOk`)
pub record ShowsHistory (link : ComplexView) (plan : Numbers) (r : ReportView) : Type 0 where
  pub ok : ReportOk link plan r
  pub shown : IsReported link plan r
  pub minimal : IsMinimal r.end

-- all links are searched, and each list that is found shows the link of its vertex
pub record IsShown (complex : ComplexView) (status : Status) (text : List ℕ) (found : Option Records) : Type 0 where
  pub looks : LooksLikeManifold complex
  pub all : ShowsAll complex status text found
  pub certificate : IsCertificate complex all.lists text

-- all links are searched, and some searches found no flips; that happens from dimension 2 on
pub record IsLeftOpen (complex : ComplexView) (plan : Numbers) (status : Status) (text : List ℕ) (found : Option Records) : Type 0 where
  pub looks : LooksLikeManifold complex
  pub dim : 2 ≤ complex.dim
  pub some : LeavesSome complex plan status text found
  pub histories : AllByRecursion (λ p. ShowsHistory (vertex_link complex p.0) plan p.1) some.left.items

abbrev pub IsManifoldAnswer : Numbers → ComplexView → Status → List ℕ → Option Records → Type 0
IsManifoldAnswer plan complex status text found = (IsNotClosed complex status text found ⊎ HasBadLink complex status text found) ⊎ (IsShown complex status text found ⊎ IsLeftOpen complex plan status text found)

-- ---- what is told of the bytes

-- the least ridge of the complex that doesn't lie in two facets
pub record NamesRidge (complex : ComplexView) (text : List ℕ) : Type 0 where
  pub ridge : List ℕ
  pub number : ℕ
  pub least : IsLeastOther complex.facets ridge number
  pub says : text ≡ unclosed_text ridge number

-- the least face of a closed complex whose link lacks a fact of a sphere; no list of legal flips leads that link, which is the link
-- of a vertex where the face is one, to the boundary of a simplex
pub record NamesFace (complex : ComplexView) (text : List ℕ) : Type 0 where
  pub closed : Closed complex.facets
  pub bad : BadLink
  pub least : IsLeastBad complex bad
  pub says : text ≡ bad_text bad
  pub never : NeverReaches (link complex bad.face)

-- the bytes tell a complex that isn't closed, or that has a bad link, and the text names the first of these
pub record TellsFault (bytes text : List ℕ) : Type 0 where
  pub complex : ComplexView
  pub input : complex_of bytes ≡ Ok complex
  pub names : NamesRidge complex text ⊎ NamesFace complex text

-- the bytes tell a complex
pub record TellsComplex (bytes : List ℕ) : Type 0 where
  pub short : length bytes ≤ 4194304
  pub complex : ComplexView
  pub input : complex_of bytes ≡ Ok complex

-- the text is a certificate of the complex of the bytes
pub record TellsManifold (bytes text : List ℕ) : Type 0 where
  pub complex : ComplexView
  pub input : complex_of bytes ≡ Ok complex
  pub looks : LooksLikeManifold complex
  pub lists : List OfVertex
  pub shown : ShowsLinks complex lists
  pub certificate : IsCertificate complex lists text

-- the text names the vertices of the complex of the bytes whose links no search by the plan led to the boundary of a simplex, and
-- these searches are reported
pub record TellsOpen (bytes text : List ℕ) (plan : Numbers) (found : Option Records) : Type 0 where
  pub complex : ComplexView
  pub input : complex_of bytes ≡ Ok complex
  pub looks : LooksLikeManifold complex
  pub dim : 2 ≤ complex.dim
  pub left : Records
  pub reports : found ≡ Some left
  pub stays : StaysOpen complex plan left.items
  pub says : text ≡ open_text (map (λ p. p.0) left.items)
  pub histories : AllByRecursion (λ p. ShowsHistory (vertex_link complex p.0) plan p.1) left.items

-- The headline of `manifold`: a Yes prints a certificate, and an Undecided reports the searches that found no flips
pub record ShowsManifold (plan : Numbers) (bytes : List ℕ) (status : Status) (text : List ℕ) (found : Option Records) : Type 0 where
  pub certificate : status ≡ Yes → TellsManifold bytes text
  pub searched : status ≡ Undecided → TellsOpen bytes text plan found

-- ---- what is reported

-- searches by the plan of links of some complex, each of which found no flips
pub record ReportsOpen (plan : Numbers) (found : Option Records) : Type 0 where
  pub left : Records
  pub reports : found ≡ Some left
  pub complex : ComplexView
  pub looks : LooksLikeManifold complex
  pub stays : StaysOpen complex plan left.items

-- what is reported with each verdict: nothing at Yes and No
abbrev pub FitsManifold : Numbers → Status → Option Records → Type 0
FitsManifold plan = Fits None (λ found. found ≡ None) (ReportsOpen plan)

-- how many quits of each worker are reported, counted from 0
abbrev pub quits_of : Option Records → ℕ → ℕ
quits_of None = λ i. 0
quits_of (Some left) = all_quits (λ r. all_quits_at r.rounds) left.items

-- Of at most 4,194,304 bytes a complex is read, whose links are judged, and searched where none is bad. The verdicts are Yes, No and
-- Undecided, and the searches that found no flips are reported. That an input has one answer is said of none.
abbrev pub meaning : Numbers → Meaning (Option Records)
meaning plan = record {
  limit = 4194304;
  Input = ComplexView;
  reads = by complex_of;
  answers = IsManifoldAnswer plan;
  nothing = None;
  may_end = MayEnd;
  fits = FitsManifold plan;
  is_fixed = ⊥;
  headline = ShowsManifold plan;
}
