-- A flip that is made only if it is legal and leaves the complex within its limits.
use Rattle.std.proofs.Common.{◌≡◌, ℕ, ◌+◌, ◌<◌, ◌≤◌, Bool, true, false, nat_le, ◌&&◌, cond, List, ◌++◌, length, Result, Ok, Err, OnOk, sym, ◌∙◌, ap, refl, subst, arith}
use Rattle.std.specs.Result.{is_ok}
use Rattle.std.proofs.lemmas.Bool.Decides.{nat_tests}
use Rattle.complex_core.specs.Labels.{IsFace, face_cmp}
use Rattle.complex_core.specs.Rising.{rising}
use Rattle.flip_rules.proofs.Legal.{legal}
use Rattle.flip_rules.proofs.Links.{flipped_by_sides}
use Rattle.complex_core.specs.Complexes.{ComplexView, IsComplex, staying}
use Rattle.complex_core.specs.Maps.{used}
use Rattle.flip_rules.specs.Flips.{broken_rule, flipped, join_boundary}
use Rattle.flip_rules.specs.declared.flip.Illegal.{Illegal}
use Rattle.stars.specs.StarViews.{StarList, IsStarListOf, UsesUpTo, places_in}
use Rattle.make_complex.specs.Draws.{is_within, flipped_within}
use Rattle.make_complex.proofs.Counts.{count_flipped}
use Rattle.make_complex.proofs.Gaps.{used_rising, few_up_to}

-- labels up to 4,096 are at most so many
pub few_labels : (k : ComplexView) → IsComplex k → UsesUpTo k 4096 → length (used k.facets) ≤ 4096
few_labels k h u = let l : 0 + length (used k.facets) ≤ 4096 = few_up_to 0 4096 (used k.facets) (used_rising k h) (omega arith) u in omega (arith, l)

pub within_by : (k : ComplexView) → IsComplex k → UsesUpTo k 4096 → length k.facets ≤ 20000 → is_within k ≡ true
within_by k h u few = both (nat_le (length k.facets) 20000) (nat_le (length (used k.facets)) 4096) (grind (arith, nat_tests)) (let l = few_labels k h u in grind (arith, nat_tests))
  where
    both : (a b : Bool) → a ≡ true → b ≡ true → (a && b) ≡ true
    both a b p q = ap (λ c. c && b) p ∙ q

-- an illegal flip isn't made
pub illegal_stays : (k : ComplexView) (a b : List ℕ) → is_ok (broken_rule k a b) ≡ false → flipped_within k a b ≡ k
illegal_stays k a b e = ap (λ t. cond (t && is_within (flipped k a b)) (flipped k a b) k) e

-- nor is one that leaves too many facets or labels
pub outside_stays : (k : ComplexView) (a b : List ℕ) → is_within (flipped k a b) ≡ false → flipped_within k a b ≡ k
outside_stays k a b e = ap (λ t. cond (is_ok (broken_rule k a b) && t) (flipped k a b) k) e ∙ never (is_ok (broken_rule k a b))
  where
    never : (t : Bool) → cond (t && false) (flipped k a b) k ≡ k
    never true = refl
    never false = refl

pub legal_made : (k : ComplexView) (a b : List ℕ) → broken_rule k a b ≡ Ok tt → is_within (flipped k a b) ≡ true → flipped_within k a b ≡ flipped k a b
legal_made k a b e w = ap (λ t. cond (is_ok t && is_within (flipped k a b)) (flipped k a b) k) e ∙ ap (λ t. cond t (flipped k a b) k) w

pub illegal_is : (k : ComplexView) (a b : List ℕ) (r : Result (Unit {0}) Illegal) (e : Illegal) → r ≡ Err e → r ≡ broken_rule k a b → k ≡ flipped_within k a b
illegal_is k a b r e is w = sym (illegal_stays k a b (ap is_ok (sym w ∙ is)))

pub too_many : (k : ComplexView) (a b : List ℕ) → IsComplex k → IsFace a → IsFace b → broken_rule k a b ≡ Ok tt → 20000 + length b < length k.facets + length a → k ≡ flipped_within k a b
too_many k a b h fa fb t many =
    let e : length (flipped k a b).facets + length b ≡ length k.facets + length a = count_flipped k a b h fa fb t in
    let more : 20000 < length (flipped k a b).facets = omega (arith, e, many) in
    let off : nat_le (length (flipped k a b).facets) 20000 ≡ false = grind (arith, nat_tests) in
    sym (outside_stays k a b (ap (λ c. c && nat_le (length (used (flipped k a b).facets)) 4096) off))

pub made_on : {E : Type 0} (k l : ComplexView) (m n : StarList) (a b : List ℕ) (r : Result (Unit {0}) E) → IsComplex k → IsFace a → IsFace b → broken_rule k a b ≡ Ok tt → length k.facets + length a ≤ 20000 + length b → places_in n ≡ places_in m → places_in m ≡ 4096 → OnOk r (l ≡ flipped k a b) → OnOk r (IsStarListOf l n) → OnOk r (l ≡ flipped_within k a b)
made_on k l m n a b (Err e) h fa fb t few p q made stars = tt
made_on k l m n a b (Ok u) h fa fb t few p q made stars =
    let e : length (flipped k a b).facets + length b ≡ length k.facets + length a = count_flipped k a b h fa fb t in
    let P : ComplexView → Type 0 = λ v. IsStarListOf v n in
    let s : IsStarListOf (flipped k a b) n = subst P made stars in
    let U : ℕ → Type 0 = λ i. UsesUpTo (flipped k a b) i in
    made ∙ sym (legal_made k a b t (within_by (flipped k a b) s.complex (subst U (p ∙ q) s.within) (omega (arith, e, few))))

-- what an exchange makes, if it finds memory
pub exchanged_is : {E : Type 0} (k l : ComplexView) (a b : List ℕ) (out more : List (List ℕ)) (r : Result (Unit {0}) E) → broken_rule k a b ≡ Ok tt → out ≡ join_boundary a b → more ≡ join_boundary b a → OnOk r (l ≡ record k { facets = rising face_cmp (staying k.facets out ++ more) }) → OnOk r (l ≡ flipped k a b)
exchanged_is k l a b out more (Err e) t p q h = tt
exchanged_is k l a b out more (Ok u) t p q h = h ∙ flipped_by_sides k a b out more p q (legal k a b t).link

pub stars_of_exchange : {E : Type 0} (k l : ComplexView) (n : StarList) (a b : List ℕ) (r : Result (Unit {0}) E) → OnOk r (l ≡ flipped k a b) → IsStarListOf (flipped k a b) n → OnOk r (IsStarListOf l n)
stars_of_exchange k l n a b (Err e) h s = tt
stars_of_exchange k l n a b (Ok u) h s = let P : ComplexView → Type 0 = λ v. IsStarListOf v n in subst P (sym h) s
