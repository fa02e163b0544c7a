-- Searches from two complexes show what they report.
use Rattle.std.proofs.Common.{◌≡◌, ℕ, ◌≤◌, ◌↔◌, Bool, true, false, true≢false, IsTrue, inl, inr, List, Option, None, Result, Ok, Err, IfOk, sym, ◌∙◌, refl, subst, arith}
use Rattle.complex_core.specs.Complexes.{ComplexView}
use Rattle.complex_core.specs.Maps.{greatest, used}
use Rattle.facet_text.specs.Writing.{KeepsLimits as KeepsTextLimits}
use Rattle.sphere_text.proofs.Fits.{greatest_at_most}
use Rattle.facet_iso.specs.Isomorphisms.{IsFit}
use Rattle.flip_laws.specs.Differences.{Alike, IsDifference, LeadsToImage}
use Rattle.flip_laws.specs.declared.difference.Differ.{Differ}
use Rattle.anneal_plan.specs.Numbers.{Numbers, KeepsLimits}
use Rattle.round_run.specs.Reports.{ReportView, ReportOk}
use Rattle.report_text.proofs.Shown.{report_is_shown}
use Rattle.std.specs.Global.{Vec}
use Rattle.flip_rules.specs.declared.flip.Flip.{Flip}
use Rattle.round_run.specs.Gates.{Rise}
use Rattle.equal_search.specs.Comparing.{CanSearch, quits_in, quits_of_both}
use Rattle.equal_search.specs.declared.search.EqualFound.{EqualFound}
use Rattle.equal_search.specs.declared.search.EqualFound.TheVariants.{Equal, Undecided}
use Rattle.job_answer.specs.Alone.{Two, complexes_of}
use Rattle.job_answer.specs.Faults.{Refuses}
use Rattle.job_answer.specs.declared.fault.Fault.TheVariants.{Unfit}
use Rattle.job_answer.specs.declared.said.Said.{Said}
use Rattle.job_answer.specs.Meanings.{Judges}
use Rattle.job_answer.specs.declared.status.Status.{Status}
use Rattle.job_answer.specs.declared.status.Status.TheVariants.{No}
use Rattle.job_pairs.specs.Readings.{IsFirstUnfit, Pair, reads, reads_fit}
use Rattle.job_equiv.specs.Texts.{difference_text}
use Rattle.job_equiv.specs.Answers.{ComesTo, IsPseudomanifold, Reports, Searches, ShowsHistory, meaning}
use Rattle.job_equiv.proofs.Certified.{certified_coming}

pub first_ok : (k l : ComplexView) (plan : Numbers) (r s : ReportView) (status : Status) (xs : List ℕ) → ComesTo k l plan r s status xs → ReportOk k plan r
first_ok k l plan r s status xs (inl a) = a.equal.compared.first.ok
first_ok k l plan r s status xs (inr a) = a.spent.compared.first.ok

pub second_ok : (k l : ComplexView) (plan : Numbers) (r s : ReportView) (status : Status) (xs : List ℕ) → ComesTo k l plan r s status xs → ReportOk l plan s
second_ok k l plan r s status xs (inl a) = a.equal.compared.second.ok
second_ok k l plan r s status xs (inr a) = a.spent.compared.second.ok

shows : (k : ComplexView) (plan : Numbers) (r : ReportView) → KeepsTextLimits k → KeepsLimits plan → ReportOk k plan r → ShowsHistory k plan r
shows k plan r limits numbers ok = record { ok = ok; shown = report_is_shown k plan r limits numbers ok }

-- so searches from complexes that differ in no fact are the answer
pub searches_judged : (plan : Numbers) (bytes : List ℕ) (x : Pair) (status : Status) (xs : List ℕ) (p : Option Reports) → reads IsPseudomanifold bytes (Ok x) → IsPseudomanifold x.0 → IsPseudomanifold x.1 → Alike x.0 x.1 → KeepsTextLimits x.0 → KeepsTextLimits x.1 → KeepsLimits plan → Searches x.0 x.1 plan status xs p → Judges (meaning plan) bytes status xs p
searches_judged plan bytes x status xs p input near far alike first second numbers h = inr (record {
  told = x;
  input = input;
  answer = inr (record {
    near = record { limits = first; pseudomanifold = near };
    far = record { limits = second; pseudomanifold = far };
    alike = alike;
    search = h;
    first = shows x.0 plan h.first first numbers (first_ok x.0 x.1 plan h.first h.second status xs h.comes);
    second = shows x.1 plan h.second second numbers (second_ok x.0 x.1 plan h.first h.second status xs h.comes);
    certificate = certified_coming x.0 x.1 plan h.first h.second status xs first second numbers h.comes;
  });
})

-- where each ridge lies in two facets it lies in at most two
pub fits : (k : ComplexView) → IsPseudomanifold k → IsFit k
fits k h = record { strong = h.strong; thin = record { at_most = λ r is. omega (arith, h.closed.two r is) } }

pub can_search : (plan : Numbers) (k : ComplexView) → KeepsTextLimits k → KeepsLimits plan → IsPseudomanifold k → CanSearch plan k
can_search plan k limits numbers h =
    let b : greatest (used k.facets) ≤ 60000 = greatest_at_most k limits in
    record { fit = fits k h; dim = limits.dim; labels = omega (arith, b, numbers.room) }

-- ---- what is read

-- the fault of the two complexes that are read
unfit_judged : (plan : Numbers) (bytes : List ℕ) (x : Pair) (which : ℕ) (status : Status) (xs : List ℕ) → complexes_of bytes ≡ Ok x → IsFirstUnfit IsPseudomanifold x which → Refuses (Unfit which) status xs → Judges (meaning plan) bytes status xs None
unfit_judged plan bytes x which status xs e unfit refused =
    let P : Two → Type 0 = λ t. reads_fit IsPseudomanifold t (Err (Unfit which)) in
    inl (record { first = Unfit which; has = subst P (sym e) (record { which = which; unfit = unfit; says = refl }); refused = refused; reports = refl })

pub first_unfit : (plan : Numbers) (bytes : List ℕ) (x : Pair) (t : Bool) (status : Status) (xs : List ℕ) → complexes_of bytes ≡ Ok x → IsTrue t ↔ IsPseudomanifold x.0 → t ≡ false → Refuses (Unfit 1) status xs → Judges (meaning plan) bytes status xs None
first_unfit plan bytes x t status xs e h n refused = unfit_judged plan bytes x 1 status xs e (inl (refl, λ p. true≢false (sym (h.1 p) ∙ n))) refused

is_fit : (k : ComplexView) (t : Bool) → IsTrue t ↔ IsPseudomanifold k → t ≡ true → IsPseudomanifold k
is_fit k t h n = h.0 n

pub second_unfit : (plan : Numbers) (bytes : List ℕ) (x : Pair) (t u : Bool) (status : Status) (xs : List ℕ) → complexes_of bytes ≡ Ok x → IsTrue t ↔ IsPseudomanifold x.0 → t ≡ true → IsTrue u ↔ IsPseudomanifold x.1 → u ≡ false → Refuses (Unfit 2) status xs → Judges (meaning plan) bytes status xs None
second_unfit plan bytes x t u status xs e h n g m refused = unfit_judged plan bytes x 2 status xs e (inr (refl, is_fit x.0 t h n, λ p. true≢false (sym (g.1 p) ∙ m))) refused

-- both are read
fit_read : (bytes : List ℕ) (x : Pair) (t u : Bool) → complexes_of bytes ≡ Ok x → IsTrue t ↔ IsPseudomanifold x.0 → t ≡ true → IsTrue u ↔ IsPseudomanifold x.1 → u ≡ true → reads IsPseudomanifold bytes (Ok x)
fit_read bytes x t u e h n g m =
    let P : Two → Type 0 = λ r. reads_fit IsPseudomanifold r (Ok x) in
    subst P (sym e) (record { same = refl; first = is_fit x.0 t h n; second = is_fit x.1 u g m })

pub difference_judged : (plan : Numbers) (bytes : List ℕ) (x : Pair) (t u : Bool) (d : Differ) (status : Status) (xs : List ℕ) → complexes_of bytes ≡ Ok x → IsTrue t ↔ IsPseudomanifold x.0 → t ≡ true → IsTrue u ↔ IsPseudomanifold x.1 → u ≡ true → IsDifference x.0 x.1 d → (LeadsToImage x.0 x.1 → ⊥) → status ≡ No → xs ≡ difference_text d → Judges (meaning plan) bytes status xs None
difference_judged plan bytes x t u d status xs e h n g m first never negative says = inr (record {
  told = x;
  input = fit_read bytes x t u e h n g m;
  answer = inl (record { is_no = negative; difference = d; first = first; says = says; never = never; reports = refl });
})

pub search_judged : {E : Type 0} (plan : Numbers) (bytes : List ℕ) (x : Pair) (t u : Bool) (result : Result (Said × Option Reports) E) → complexes_of bytes ≡ Ok x → IsTrue t ↔ IsPseudomanifold x.0 → t ≡ true → IsTrue u ↔ IsPseudomanifold x.1 → u ≡ true → Alike x.0 x.1 → KeepsTextLimits x.0 → KeepsTextLimits x.1 → KeepsLimits plan → IfOk result (λ a. Searches x.0 x.1 plan a.0.status a.0.text.items a.1) → IfOk result (λ a. Judges (meaning plan) bytes a.0.status a.0.text.items a.1)
search_judged plan bytes x t u (Ok a) e h n g m alike first second numbers s = searches_judged plan bytes x a.0.status a.0.text.items a.1 (fit_read bytes x t u e h n g m) (is_fit x.0 t h n) (is_fit x.1 u g m) alike first second numbers s
search_judged plan bytes x t u (Err o) e h n g m alike first second numbers s = tt

-- the quits of what a search found
pub quits_equal : {A : Type 0} (count : A → ℕ) (was now : List A) (found : EqualFound) (r s : ReportView) (flips : Vec Flip) (pairs : List (ℕ × ℕ)) → found ≡ Equal r s flips pairs → Rise count was now (quits_in found) → Rise count was now (quits_of_both r s)
quits_equal count was now found r s flips pairs e h = let P : EqualFound → Type 0 = λ f. Rise count was now (quits_in f) in subst P e h

pub quits_undecided : {A : Type 0} (count : A → ℕ) (was now : List A) (found : EqualFound) (r s : ReportView) → found ≡ Undecided r s → Rise count was now (quits_in found) → Rise count was now (quits_of_both r s)
quits_undecided count was now found r s e h = let P : EqualFound → Type 0 = λ f. Rise count was now (quits_in f) in subst P e h
