-- The B of a candidate, from the labels over A.
use Rattle.std.proofs.Common.{◌≡◌, ℕ, ◌+◌, ◌-◌, ◌<◌, Bool, false, nat_eq, List, length, Ok, Err, Result, sym, ◌∙◌, ap, arith, eq-eqb, inl, inr}
use Rattle.std.proofs.lemmas.Bool.{cases_lt}
use Rattle.complex_core.specs.Links.{less}
use Rattle.complex_core.specs.Complexes.{ComplexView, over}
use Rattle.flip_rules.specs.Flips.{broken_rule, IsNear, Legal}
use Rattle.flip_rules.specs.declared.flip.Illegal.{Illegal}
use Rattle.stars.specs.StarViews.{StarList, IsStarListOf}
use Rattle.descent_laws.specs.Descents.{IsReducing}
use Rattle.descent_laws.proofs.Reducing.{two_at_least}
use Rattle.flip_options.specs.Candidates.{IsJoin, TooMany, flip_from}
use Rattle.flip_options.proofs.Joining.{none_fits, join_is, join_size, less_is, rows_over}
use Rattle.flip_rules.proofs.Legal.{legal}
use Rattle.complex_core.proofs.SubsetLists.{clash}

pub some_label : (n : ℕ) (r : Bool) → r ≡ nat_eq n 0 → r ≡ false → 0 < n
some_label n r e f = elim (cases_lt 0 n) [ inl p ↦ p | inr p ↦ let z : n ≡ 0 = omega (arith, p) in clash (nat_eq n 0) (eq-eqb n 0 z) (sym e ∙ f) ]

-- too many rows over A, or too few
pub other_count : (m : StarList) (rows : List (List ℕ)) (a : List ℕ) (d n : ℕ) (r : Bool) → d ≡ m.dim → 0 < length a → n ≡ length a → ((k : ComplexView) → IsStarListOf k m → 0 < length a → over rows a ≡ over k.facets a) → r ≡ nat_eq (length (over rows a)) (d + 2 - n) → r ≡ false → (k : ComplexView) → IsStarListOf k m → (b : List ℕ) → IsReducing k (flip_from a b) → ⊥
other_count m rows a d n r e p s h is other k i b red =
    let l : Legal k a b = legal k a b red.legal in
    let count : length (over rows a) ≡ d + 2 - n = omega (arith, ap length (h k i p), rows_over k a b red, l.shape.sizes, e, i.dim, s) in
    clash (nat_eq (length (over rows a)) (d + 2 - n)) (eq-eqb (length (over rows a)) (d + 2 - n) count) (sym is ∙ other)

-- too many labels over A, or too few
pub none_over : (m : StarList) (rows : List (List ℕ)) (a : List ℕ) (d : ℕ) → d ≡ m.dim → 0 < length a → ((k : ComplexView) → IsStarListOf k m → 0 < length a → over rows a ≡ over k.facets a) → TooMany rows a (d + 2) → (k : ComplexView) → IsStarListOf k m → (b : List ℕ) → IsReducing k (flip_from a b) → ⊥
none_over m rows a d e n h many k i b r = none_fits k rows a b (d + 2) (h k i n) (omega (arith, e, i.dim)) many r

pub other_size : (m : StarList) (rows : List (List ℕ)) (a all : List ℕ) (d n : ℕ) → d ≡ m.dim → 0 < length a → ((k : ComplexView) → IsStarListOf k m → 0 < length a → over rows a ≡ over k.facets a) → IsJoin rows a all → n ≡ length all → (n ≡ d + 2 → ⊥) → (k : ComplexView) → IsStarListOf k m → (b : List ℕ) → IsReducing k (flip_from a b) → ⊥
other_size m rows a all d n e p h j s o k i b r = o (omega (arith, join_size k rows a b all (h k i p) j r, s, e, i.dim))

-- the one B that is left makes no legal flip
pub refused : (m : StarList) (near_a near_b : List (List ℕ)) (a all other : List ℕ) (d : ℕ) (r : Result (Unit {0}) Illegal) (x : Illegal) → d ≡ m.dim → 0 < length a → ((k : ComplexView) → IsStarListOf k m → 0 < length a → over near_a a ≡ over k.facets a) → ((k : ComplexView) → IsStarListOf k m → 0 < length other → over near_b other ≡ over k.facets other) → IsJoin near_a a all → other ≡ less all a → ((k : ComplexView) → IsNear k d near_a near_b a other → r ≡ broken_rule k a other) → r ≡ Err x → (k : ComplexView) → IsStarListOf k m → (b : List ℕ) → IsReducing k (flip_from a b) → ⊥
refused m near_a near_b a all other d r x e n ha hb j is h bad k i b red =
    let same : other ≡ b = is ∙ less_is k a b all (join_is k near_a a b all (ha k i n) j red) red in
    let some : 0 < length other = omega (arith, two_at_least k (flip_from a b) red, ap length same) in
    let near : IsNear k d near_a near_b a other = record { dim = sym (e ∙ i.dim); first = ha k i n; second = hb k i some } in
    let f : Err x ≡ Ok tt = sym bad ∙ h k near ∙ ap (broken_rule k a) same ∙ red.legal in
    cc
