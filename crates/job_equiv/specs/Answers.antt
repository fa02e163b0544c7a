-- What the job `equiv` answers.
use Rattle.std.specs.Prelude.{◌≡◌, ◌⊎◌, ℕ, List, length, Ok, Some, None}
use Rattle.std.specs.declared.option.Option.{Option}
use Rattle.complex_core.specs.Complexes.{ComplexView}
use Rattle.pseudo_test.specs.Chains.{StronglyConnected}
use Rattle.pseudo_test.specs.Ridges.{Closed}
use Rattle.facet_text.specs.Writing.{KeepsLimits}
use Rattle.flip_rules.specs.declared.flip.Flip.{Flip}
use Rattle.flip_laws.specs.Differences.{Alike, IsDifference, LeadsToImage}
use Rattle.flip_laws.specs.declared.difference.Differ.{Differ}
use Rattle.cert_text.specs.Statements.{Equal}
use Rattle.cert_replay.specs.Answers.{EqualCert}
use Rattle.equal_text.specs.Texts.{certified}
use Rattle.anneal_plan.specs.Numbers.{Numbers}
use Rattle.round_run.specs.Reports.{ReportView, ReportOk}
use Rattle.report_text.specs.Shown.{IsReported}
use Rattle.equal_search.specs.Comparing.{AreEqual, AreUndecided, quits_of_both}
use Rattle.job_answer.specs.Meanings.{Meaning}
use Rattle.job_answer.specs.Statuses.{EndsSearch}
use Rattle.job_answer.specs.declared.status.Status.{Status}
use Rattle.job_answer.specs.declared.status.Status.TheVariants.{Yes, No, Undecided}
use Rattle.job_pairs.specs.Readings.{Pair, reads}
use Rattle.job_replay.specs.Answers.{TellsCertified}
use Rattle.search_lines.specs.Ends.{Fits, MayEnd}
use Rattle.job_equiv.specs.Texts.{difference_text, found_text, undecided_text}

-- each ridge lies in two facets, and any two facets are joined
pub record IsPseudomanifold (k : ComplexView) : Type 0 where
  pub closed : Closed k.facets
  pub strong : StronglyConnected k.facets

-- the reports of the searches from both complexes
abbrev pub Reports : Type 0
Reports = ReportView × ReportView

-- ---- the answer to two complexes

-- No, with the first fact in which they differ. No list of legal flips leads from the first to an image of the second
pub record AreDifferent (k l : ComplexView) (status : Status) (text : List ℕ) (found : Option Reports) : Type 0 where
  pub is_no : status ≡ No
  pub difference : Differ
  pub first : IsDifference k l difference
  pub says : text ≡ difference_text difference
  pub never : LeadsToImage k l → ⊥
  pub reports : found ≡ None

-- Yes, with one list of flips, which leads from the first complex to one that the pairs take to the second
pub record LeadsOver (k l : ComplexView) (plan : Numbers) (r s : ReportView) (status : Status) (text : List ℕ) : Type 0 where
  pub is_yes : status ≡ Yes
  pub flips : List Flip
  pub pairs : List (ℕ × ℕ)
  pub equal : AreEqual k l plan r s flips pairs
  pub says : text ≡ found_text (length r.rounds) l flips pairs

-- Undecided, where all rounds were made and no comparison found a map
pub record StaysApart (k l : ComplexView) (plan : Numbers) (r s : ReportView) (status : Status) (text : List ℕ) : Type 0 where
  pub is_undecided : status ≡ Undecided
  pub spent : AreUndecided k l plan r s
  pub says : text ≡ undecided_text (length r.rounds) (length r.end.facets) (length s.end.facets)

abbrev pub ComesTo : ComplexView → ComplexView → Numbers → ReportView → ReportView → Status → List ℕ → Type 0
ComesTo k l plan r s status text = LeadsOver k l plan r s status text ⊎ StaysApart k l plan r s status text

-- searches from both complexes by the plan, which are reported, come to this
pub record Searches (k l : ComplexView) (plan : Numbers) (status : Status) (text : List ℕ) (found : Option Reports) : Type 0 where
  pub first : ReportView
  pub second : ReportView
  pub reports : found ≡ Some (first, second)
  pub comes : ComesTo k l plan first second status text

-- what a search from a complex shows. Whatever the schedule of the workers was, the journal that is reported is one legal
-- history: its flips, descent 0, round 0, descent 1, .., are legal in order from the complex on its places, and lead to the
-- reported end; and in each round the entries of each worker are those that it committed, whole, once and in order (`RoundOk`
-- within `ReportOk`)
pub record ShowsHistory (k : ComplexView) (plan : Numbers) (r : ReportView) : Type 0 where
  pub ok : ReportOk k plan r
  pub shown : IsReported k plan r

-- the text is a certificate of the first complex, whose target is the second: one list of flips, those of the first report and
-- behind them those of the second turned round and carried over the least map from the one end to the other; they are legal in
-- order, and lead to a complex that the pairs take to the target. And the first complex with the certificate behind it is an input
-- of `replay` that tells just this
pub record IsOneList (k l : ComplexView) (plan : Numbers) (r s : ReportView) (text : List ℕ) : Type 0 where
  pub flips : List Flip
  pub pairs : List (ℕ × ℕ)
  pub equal : AreEqual k l plan r s flips pairs
  pub says : text ≡ found_text (length r.rounds) l flips pairs
  pub shows : EqualCert k flips pairs l
  pub valid : TellsCertified (certified k l flips pairs)
  pub of_equal : valid.statement ≡ Equal l flips pairs

-- a complex within the limits of an input, each ridge of which lies in two facets, and any two facets of which are joined
pub record MayBeSearched (k : ComplexView) : Type 0 where
  pub limits : KeepsLimits k
  pub pseudomanifold : IsPseudomanifold k

-- the complexes differ in no fact that flips keep, and searches from both come to this
pub record AreSearched (k l : ComplexView) (plan : Numbers) (status : Status) (text : List ℕ) (found : Option Reports) : Type 0 where
  pub near : MayBeSearched k
  pub far : MayBeSearched l
  pub alike : Alike k l
  pub search : Searches k l plan status text found
  pub first : ShowsHistory k plan search.first
  pub second : ShowsHistory l plan search.second
  pub certificate : status ≡ Yes → IsOneList k l plan search.first search.second text

abbrev pub IsEquivAnswer : Numbers → Pair → Status → List ℕ → Option Reports → Type 0
IsEquivAnswer plan x status text found = AreDifferent x.0 x.1 status text found ⊎ AreSearched x.0 x.1 plan status text found

-- ---- what is told of the bytes

-- this is the first fact that flips keep and in which the two complexes of the bytes differ, and no list of legal flips leads from
-- the first to an image of the second
pub record TellsDifference (bytes text : List ℕ) : Type 0 where
  pub complexes : Pair
  pub input : reads IsPseudomanifold bytes (Ok complexes)
  pub difference : Differ
  pub first : IsDifference complexes.0 complexes.1 difference
  pub says : text ≡ difference_text difference
  pub never : LeadsToImage complexes.0 complexes.1 → ⊥

-- the bytes tell two complexes that differ in no such fact, and searches from both by the plan are reported
pub record TellsSearches (bytes : List ℕ) (plan : Numbers) (found : Option Reports) : Type 0 where
  pub complexes : Pair
  pub input : reads IsPseudomanifold bytes (Ok complexes)
  pub alike : Alike complexes.0 complexes.1
  pub first : ReportView
  pub second : ReportView
  pub reports : found ≡ Some (first, second)
  pub first_history : ShowsHistory complexes.0 plan first
  pub second_history : ShowsHistory complexes.1 plan second

-- the text is a certificate of the first complex of the bytes, whose target is the second, with the flips of the searches that
-- are reported
pub record TellsOneList (bytes text : List ℕ) (plan : Numbers) (found : Option Reports) : Type 0 where
  pub complexes : Pair
  pub input : reads IsPseudomanifold bytes (Ok complexes)
  pub first : ReportView
  pub second : ReportView
  pub reports : found ≡ Some (first, second)
  pub list : IsOneList complexes.0 complexes.1 plan first second text

-- The headline of `equiv`: a Yes and an Undecided report two searches, and a Yes prints its certificate
pub record ShowsSearches (plan : Numbers) (bytes : List ℕ) (status : Status) (text : List ℕ) (found : Option Reports) : Type 0 where
  pub told : EndsSearch status → TellsSearches bytes plan found
  pub certificate : status ≡ Yes → TellsOneList bytes text plan found

-- ---- what is reported

-- searches by the plan whose last comparison found a map, and none before it
pub record ReportsEqual (plan : Numbers) (found : Option Reports) : Type 0 where
  pub first : ReportView
  pub second : ReportView
  pub reports : found ≡ Some (first, second)
  pub flips : List Flip
  pub pairs : List (ℕ × ℕ)
  pub equal : AreEqual first.input second.input plan first second flips pairs

-- searches by the plan that made all rounds, and no comparison of which found a map
pub record ReportsSpent (plan : Numbers) (found : Option Reports) : Type 0 where
  pub first : ReportView
  pub second : ReportView
  pub reports : found ≡ Some (first, second)
  pub spent : AreUndecided first.input second.input plan first second

-- what is reported with each verdict
abbrev pub FitsEquiv : Numbers → Status → Option Reports → Type 0
FitsEquiv plan = Fits None (ReportsEqual plan) (ReportsSpent plan)

-- how many quits of each worker are reported, counted from 0
abbrev pub quits_of : Option Reports → ℕ → ℕ
quits_of None = λ i. 0
quits_of (Some r) = quits_of_both r.0 r.1

-- Of at most 4,194,304 bytes two complexes are read, one behind the other, which are compared or searched. The verdicts are Yes, No
-- and Undecided, and both searches are reported.
abbrev pub meaning : Numbers → Meaning (Option Reports)
meaning plan = record {
  limit = 4194304;
  Input = Pair;
  reads = reads IsPseudomanifold;
  answers = IsEquivAnswer plan;
  nothing = None;
  may_end = MayEnd;
  fits = FitsEquiv plan;
  is_fixed = plan.rounds ≡ 0;
  headline = ShowsSearches plan;
}
