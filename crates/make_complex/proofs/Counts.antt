-- How many facets a flip leaves.
use Rattle.std.proofs.Common.{◌≡◌, ℕ, ◌+◌, ◌≤◌, true, false, not, cond, List, [], ◌∷◌, ◌++◌, length, Ok, ◌∙◌, ap, refl, arith, length-append}
use Rattle.std.specs.Ordering.{nat_cmp}
use Rattle.complex_core.specs.Labels.{IsFace, holds}
use Rattle.complex_core.specs.Complexes.{ComplexView, IsComplex, over, beside}
use Rattle.complex_core.proofs.Sets.{above_tail}
use Rattle.complex_core.proofs.SetLists.{rising_length}
use Rattle.flip_rules.specs.Flips.{Legal, broken_rule, flipped, join_boundary}
use Rattle.flip_rules.proofs.Legal.{legal}
use Rattle.flip_rules.proofs.Back.{undoes}
use Rattle.descent_laws.proofs.Falling.{length_sides, many_sides}

-- the facets that contain A, and the others
parted : (fs : List (List ℕ)) (a : List ℕ) → length fs ≡ length (over fs a) + length (beside fs a)
parted [] a = refl
parted (f ∷ fs) a =
    elim (holds f a) as (λ c. length (f ∷ fs) ≡ length (cond c (f ∷ over fs a) (over fs a)) + length (cond (not c) (f ∷ beside fs a) (beside fs a))) [
      | true ↦ omega (arith, parted fs a)
      | false ↦ omega (arith, parted fs a)
    ]

at_most : (k : ComplexView) (a b : List ℕ) → IsFace b → broken_rule k a b ≡ Ok tt → length (flipped k a b).facets + length b ≤ length k.facets + length a
at_most k a b fb t =
    let l : Legal k a b = legal k a b t in
    let out : length (over k.facets a) ≡ length b = ap length l.link ∙ many_sides a b l.shape.apart b (above_tail nat_cmp 0 b fb.rising) (λ x t. t) in
    let most : length (flipped k a b).facets ≤ length (beside k.facets a ++ join_boundary b a) = rising_length (beside k.facets a ++ join_boundary b a) in
    omega (arith, parted k.facets a, out, most, length-append (beside k.facets a) (join_boundary b a), length_sides b a a)

-- as many more as A has labels, less as many as B has
pub count_flipped : (k : ComplexView) (a b : List ℕ) → IsComplex k → IsFace a → IsFace b → broken_rule k a b ≡ Ok tt → length (flipped k a b).facets + length b ≡ length k.facets + length a
count_flipped k a b h fa fb t =
    let back : (broken_rule (flipped k a b) b a ≡ Ok tt) × (flipped (flipped k a b) b a ≡ k) = undoes k a b h.rising t in
    let there : length (flipped k a b).facets + length b ≤ length k.facets + length a = at_most k a b fb t in
    let here : length (flipped (flipped k a b) b a).facets + length a ≤ length (flipped k a b).facets + length b = at_most (flipped k a b) b a fa back.0 in
    let same : length (flipped (flipped k a b) b a).facets ≡ length k.facets = ap (λ (l : ComplexView). length l.facets) back.1 in
    omega (arith, there, here, same)
