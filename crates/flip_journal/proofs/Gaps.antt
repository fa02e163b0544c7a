-- The least number from 1 that is no name.
use Rattle.std.proofs.Common.{◌≡◌, ℕ, zero, suc, get_or, ◌+◌, ◌<◌, ◌≤◌, true, false, nat_eq, cond, ◌||◌, List, [], ◌∷◌, length, map, sym, ◌∙◌, ap, refl, arith, inl, inr, subst}
use Rattle.std.specs.List.Sorted.{IsStrictlySortedBy}
use Rattle.std.specs.Ordering.{nat_cmp}
use Rattle.std.proofs.lemmas.Cmp.{nat_cmp_total}
use Rattle.std.proofs.lemmas.Bool.{cases_lt}
use Rattle.std.proofs.lemmas.Bool.Decides.{nat_tests}
use Rattle.std.specs.declared.cmp.Ordering.TheVariants.{Less}
use Rattle.complex_core.specs.Labels.{IsRising, has}
use Rattle.complex_core.specs.Maps.{ArePositive, reaches}
use Rattle.complex_core.proofs.Sets.{above_cons, above_head, above_tail, sorted_rising}
use Rattle.complex_core.proofs.Faces.{less_cmp, cmp_less}
use Rattle.complex_core.proofs.Laws.{both_false, nat_eq_is, or_left, or_right}
use Rattle.complex_core.proofs.Members.{each_member, has-rising}
use Rattle.complex_core.proofs.Places.{at_least_place}
use Rattle.complex_core.proofs.Renaming.{list_any-map}
use Rattle.complex_core.proofs.SubsetLists.{above_at, two}
use Rattle.flip_journal.specs.Carried.{first_gap, given, least_unused}
use Rattle.flip_journal.specs.Laws.{NewNameIsLeast}

-- ---- the least unused name

record IsGap (low : ℕ) (xs : List ℕ) (n : ℕ) : Type 0 where
  low_is : low < n
  unused : has xs n ≡ false
  all : (x : ℕ) → low < x → x < n → has xs x ≡ true

gap_is : (low : ℕ) (xs : List ℕ) → IsStrictlySortedBy nat_cmp (low ∷ xs) → IsGap low xs (first_gap (low + 1) xs)
gap_is low [] s = record { low_is = omega arith; unused = refl; all = λ x l h. absurd (omega (arith, l, h)) }
gap_is low (y ∷ ys) s =
    let l : low < y = less_cmp low y (above_head nat_cmp low (y ∷ ys) s).0 in
    elim (nat_eq y (low + 1)) as (λ b. nat_eq y (low + 1) ≡ b → IsGap low (y ∷ ys) (cond b (first_gap (low + 1 + 1) ys) (low + 1))) [
      | true ↦ λ e.
          let q : y ≡ low + 1 = nat_eq_is y (low + 1) e in
          let P : ℕ → Type 0 = λ z. IsGap y ys (first_gap (z + 1) ys) in
          let g : IsGap y ys (first_gap (low + 1 + 1) ys) = subst P q (gap_is y ys (above_tail nat_cmp low (y ∷ ys) s)) in
          record {
            low_is = omega (arith, g.low_is, l);
            unused = both_false (let n : y < first_gap (low + 1 + 1) ys = g.low_is in grind (arith, nat_tests)) g.unused;
            all = λ x h m. elim (two (nat_eq y x)) [
              | inl f ↦ or_left (nat_eq y x) (has ys x) f
              | inr f ↦ or_right (nat_eq y x) (has ys x) (g.all x (let n : low < x = h in grind (arith, nat_tests)) m)
            ];
          }
      | false ↦ λ e. record {
        low_is = omega arith;
        unused = both_false e (elim (two (has ys (low + 1))) [
          | inl t ↦
              let n : y < low + 1 = less_cmp y (low + 1) (above_at y (low + 1) ys (above_head nat_cmp y ys (above_tail nat_cmp low (y ∷ ys) s)) t) in
              absurd (omega (arith, n, l))
          | inr t ↦ t
        ]);
        all = λ x h m. absurd (omega (arith, h, m));
      }
    ] refl

pub has-given : (names : List (ℕ × ℕ)) (x : ℕ) → has (given names) x ≡ reaches names x
has-given names x = has-rising (map (λ p. p.1) names) x ∙ list_any-map (λ y. nat_eq y x) (λ p. p.1) names

reached_positive : (m : List (ℕ × ℕ)) (y : ℕ) → ArePositive m → reaches m y ≡ true → 0 < y
reached_positive [] y h t = let e : false ≡ true = t in cc
reached_positive (p ∷ m) y h t = elim (two (nat_eq p.1 y)) [
  | inl e ↦ omega (arith, h.0.1, nat_eq_is p.1 y e)
  | inr e ↦ reached_positive m y h.1 (ap (λ c. c || reaches m y) (sym e) ∙ t)
]

pub given_rises : (names : List (ℕ × ℕ)) → ArePositive names → IsRising (given names)
given_rises names h = above_cons nat_cmp 0 (given names)
    (each_member (λ x. nat_cmp 0 x ≡ Less) (given names) (λ x t. cmp_less 0 x (reached_positive names x h (sym (has-given names x) ∙ t))))
    (sorted_rising nat_cmp_total (map (λ p. p.1) names))

pub new_name_is_least : NewNameIsLeast
new_name_is_least names h =
    let g : IsGap 0 (given names) (least_unused names) = gap_is 0 (given names) (given_rises names h) in
    record {
      positive = g.low_is;
      unused = sym (has-given names (least_unused names)) ∙ g.unused;
      least = λ x l m. sym (has-given names x) ∙ g.all x l m;
    }

-- ---- the gap in rising numbers from 1, by halving

-- the numbers before low stand at their own positions, and those from high on don't
pub record Narrows (xs : List ℕ) (low high : ℕ) : Type 0 where
  pub ordered : low ≤ high
  pub inside : high ≤ length xs
  pub below : (i : ℕ) → i + 1 ≡ low → get_or xs i 0 ≡ low
  pub above : high < length xs → high + 1 < get_or xs high 0

pub narrows_all : (xs : List ℕ) → Narrows xs 0 (length xs)
narrows_all xs = record { ordered = omega arith; inside = omega arith; below = λ i e. absurd (omega (arith, e)); above = λ l. absurd (omega (arith, l)) }

pub narrows_up : (xs : List ℕ) (low high middle x : ℕ) → Narrows xs low high → middle < high → x ≡ get_or xs middle 0 → x ≡ middle + 1 → Narrows xs (middle + 1) high
narrows_up xs low high middle x n l is e = record {
  ordered = omega (arith, l);
  inside = n.inside;
  below = λ i f. let g : i ≡ middle = omega (arith, f) in ap (λ j. get_or xs j 0) g ∙ sym is ∙ e;
  above = n.above;
}

pub narrows_down : (xs : List ℕ) (low high middle x : ℕ) → IsRising xs → Narrows xs low high → low ≤ middle → middle < high → x ≡ get_or xs middle 0 → (x ≡ middle + 1 → ⊥) → Narrows xs low middle
narrows_down xs low high middle x s n l m is e = record {
  ordered = l;
  inside = omega (arith, m, n.inside);
  below = n.below;
  above = λ h. elim (cases_lt (middle + 1) (get_or xs middle 0)) [
    | inl lt ↦ lt
    | inr ge ↦ absurd (e (omega (arith, ge, is, at_least_place 0 xs middle s h)))
  ];
}

gap_at : (n low : ℕ) (xs : List ℕ) → IsStrictlySortedBy nat_cmp (low ∷ xs) → n ≤ length xs → ((i : ℕ) → i + 1 ≡ n → get_or xs i 0 ≡ low + n) → (n < length xs → low + n + 1 < get_or xs n 0) → first_gap (low + 1) xs ≡ low + n + 1
gap_at zero low [] s h below above = omega arith
gap_at zero low (x ∷ xs) s h below above =
    let l : low + 1 < x = omega (arith, above (omega arith)) in
    let e : nat_eq x (low + 1) ≡ false = grind (arith, nat_tests) in
    ap (λ b. cond b (first_gap (low + 1 + 1) xs) (low + 1)) e ∙ omega arith
gap_at (suc n) low [] s h below above = absurd (omega (arith, h))
gap_at (suc n) low (x ∷ xs) s h below above =
    let first : x ≡ low + 1 = head n h (below n (omega arith)) in
    let e : nat_eq x (low + 1) ≡ true = grind (arith, nat_tests) in
    let rest : first_gap (x + 1) xs ≡ x + n + 1 = gap_at n x xs (above_tail nat_cmp low (x ∷ xs) s) (omega (arith, h)) (λ i f. omega (arith, below (suc i) (omega (arith, f)), first)) (λ l. omega (arith, above (omega (arith, l)), first)) in
    ap (λ b. cond b (first_gap (low + 1 + 1) xs) (low + 1)) e ∙ ap (λ z. first_gap (z + 1) xs) (sym first) ∙ rest ∙ omega (arith, first)
  where
    above_low : low < x
    above_low = less_cmp low x (above_head nat_cmp low (x ∷ xs) s).0

    head : (n : ℕ) → suc n ≤ length (x ∷ xs) → get_or (x ∷ xs) n 0 ≡ low + suc n → x ≡ low + 1
    head zero m e = omega (arith, e)
    head (suc n) m e = omega (arith, at_least_place x xs n (above_tail nat_cmp low (x ∷ xs) s) (omega (arith, m)), above_low, e)

pub gap_found : (xs : List ℕ) (low high : ℕ) → IsRising xs → Narrows xs low high → high ≤ low → low + 1 ≡ first_gap 1 xs
gap_found xs low high s n h =
    let e : low ≡ high = omega (arith, h, n.ordered) in
    omega (arith, gap_at low 0 xs s (omega (arith, e, n.inside)) (λ i f. omega (arith, n.below i f)) (λ l. omega (arith, subst (λ j. j < length xs → j + 1 < get_or xs j 0) (sym e) n.above l)))
