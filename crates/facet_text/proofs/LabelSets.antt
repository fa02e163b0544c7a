-- The labels of a facet, as the reader gathers them one by one.
use Rattle.std.proofs.Common.{◌≡◌, ◌≤◌, ◌+◌, ℕ, Bool, true, false, ◌||◌, List, [], ◌∷◌, length, refl, sym, ap, ◌∙◌, arith, inl, inr, nat_eq}
use Rattle.std.specs.List.{AllByRecursion}
use Rattle.std.specs.Ordering.{nat_cmp}
use Rattle.std.proofs.lemmas.Bool.{cases_Bool, true≢false, or_parts, or_from}
use Rattle.complex_core.specs.Labels.{has, with, union}
use Rattle.complex_core.specs.Rising.{rising}
use Rattle.complex_core.proofs.Faces.{with_new}
use Rattle.complex_core.proofs.Laws.{has-with, nat_eq_is, nat_eq_same, or_left, or_right}
use Rattle.facet_text.specs.Grammar.{is_label}
use Rattle.facet_text.specs.Spelling.{AllDiffer, IsGood}
use Rattle.complex_core.proofs.Images.{union_rising}

-- each of the labels is one, is new, and leaves at most seven
abbrev pub Fresh : List ℕ → List ℕ → Type 0
Fresh done [] = Unit {0}
Fresh done (n ∷ ns) = (is_label n ≡ true) × (has done n ≡ false) × (length (with done n) ≤ 7) × Fresh (with done n) ns

abbrev InRange : List ℕ → Type 0
InRange ns = AllByRecursion (λ n. (1 ≤ n) × (n ≤ 60000)) ns

-- another label than one that is not there
other_label : (ns : List ℕ) (n z : ℕ) → has ns n ≡ false → has ns z ≡ true → nat_eq n z ≡ false
other_label ns n z new there = elim (cases_Bool (nat_eq n z)) [
  | inr other ↦ other
  | inl same ↦ absurd (true≢false (sym there ∙ ap (has ns) (sym (nat_eq_is n z same)) ∙ new))
]

fresh_from : (done ns : List ℕ) → InRange ns → AllDiffer ns → ((z : ℕ) → has ns z ≡ true → has done z ≡ false) → length done + length ns ≤ 7 → Fresh done ns
fresh_from done [] range differ apart few = tt
fresh_from done (n ∷ ns) range differ apart few =
    let good : is_label n ≡ true = let r = range.0 in grind arith in
    let new : has done n ≡ false = apart n (or_left (nat_eq n n) (has ns n) (nat_eq_same n)) in
    let count = with_new done n new in
    let later = λ (z : ℕ) (there : has ns z ≡ true).
    has-with done n z ∙ or_from (nat_eq n z) (has done z) (other_label ns n z differ.0 there) (apart z (or_right (nat_eq n z) (has ns z) there)) in
    (good, new, omega arith, fresh_from (with done n) ns range.1 differ.1 later (omega arith))

pub fresh_labels : (ns : List ℕ) → IsGood ns → Fresh [] ns
fresh_labels ns good = fresh_from [] ns good.range good.differ (λ z there. refl) (omega (arith, good.high))

-- new labels make the set as many longer
fresh_count : (done ns : List ℕ) → Fresh done ns → length (union done ns) ≡ length done + length ns
fresh_count done [] fresh = omega arith
fresh_count done (n ∷ ns) fresh = omega (arith, fresh_count (with done n) ns fresh.3, with_new done n fresh.1)

pub gathered_count : (ns : List ℕ) → Fresh [] ns → length (rising nat_cmp ns) ≡ length ns
gathered_count ns fresh = ap length (sym (union_rising ns)) ∙ fresh_count [] ns fresh ∙ omega arith

pub gathered : (ns : List ℕ) → IsGood ns → (union [] ns ≡ rising nat_cmp ns) × (length (rising nat_cmp ns) ≡ length ns)
gathered ns good = (union_rising ns, gathered_count ns (fresh_labels ns good))

-- ---- and back

fresh_apart : (done ns : List ℕ) → Fresh done ns → AllDiffer ns × ((z : ℕ) → has ns z ≡ true → has done z ≡ false)
fresh_apart done [] fresh = (tt, λ z there. absurd (true≢false (sym there)))
fresh_apart done (n ∷ ns) fresh =
    let rest = fresh_apart (with done n) ns fresh.3 in
    let alone : has ns n ≡ false = elim (cases_Bool (has ns n)) [
      | inr other ↦ other
      | inl there ↦ absurd (true≢false (sym (has-with done n n ∙ or_left (nat_eq n n) (has done n) (nat_eq_same n)) ∙ rest.1 n there))
    ] in
    ((alone, rest.0), λ z there. apart done ns n z fresh.1 rest.1 there)
  where
    only_left : (a b : Bool) → (a || b) ≡ true → b ≡ false → a ≡ true
    only_left true b e f = refl
    only_left false b e f = absurd (true≢false (sym e ∙ f))

    same_new : (done : List ℕ) (n z : ℕ) → has done n ≡ false → nat_eq n z ≡ true → has done z ≡ false
    same_new done n z new same = ap (has done) (sym (nat_eq_is n z same)) ∙ new

    apart : (done ns : List ℕ) (n z : ℕ) → has done n ≡ false → ((y : ℕ) → has ns y ≡ true → has (with done n) y ≡ false) → (nat_eq n z || has ns z) ≡ true → has done z ≡ false
    apart done ns n z new rest there = elim (cases_Bool (has ns z)) [
      | inl later ↦ (or_parts (nat_eq n z) (has done z) (sym (has-with done n z) ∙ rest z later)).1
      | inr other ↦ same_new done n z new (only_left (nat_eq n z) (has ns z) there other)
    ]

label_range : (n : ℕ) → is_label n ≡ true → (1 ≤ n) × (n ≤ 60000)
label_range n h = grind arith

fresh_range : (done ns : List ℕ) → Fresh done ns → InRange ns
fresh_range done [] fresh = tt
fresh_range done (n ∷ ns) fresh = (label_range n fresh.0, fresh_range (with done n) ns fresh.3)

fresh_few : (done ns : List ℕ) → length done ≤ 7 → Fresh done ns → length done + length ns ≤ 7
fresh_few done [] few fresh = omega arith
fresh_few done (n ∷ ns) few fresh = omega (arith, fresh_few (with done n) ns fresh.2 fresh.3, with_new done n fresh.1)

-- labels that the reader took, but for their least number
pub good_labels : (ns : List ℕ) → Fresh [] ns → 2 ≤ length ns → IsGood ns
good_labels ns fresh two = record {
  low = two;
  high = omega (arith, fresh_few [] ns (omega arith) fresh);
  range = fresh_range [] ns fresh;
  differ = (fresh_apart [] ns fresh).0;
}
