-- Legality is seen in the facets near A and near B.
use Rattle.std.proofs.Common.{◌≡◌, ℕ, true, false, cond, ◌||◌, List, [], ◌∷◌, sym, ◌∙◌, ap, refl}
use Rattle.complex_core.specs.Labels.{holds, face_cmp}
use Rattle.complex_core.specs.Rising.{rising}
use Rattle.complex_core.specs.Complexes.{ComplexView, over, is_held}
use Rattle.flip_rules.specs.Flips.{join_boundary, has_shape, same_sets, broken_rule, broken_rule_near, IsNear}
use Rattle.flip_rules.proofs.Legal.{verdict}
use Rattle.complex_core.proofs.Runs.{held_alike}

-- a set is held where it is held by the facets that contain it
held_over : (fs : List (List ℕ)) (a : List ℕ) → is_held (over fs a) a ≡ is_held fs a
held_over [] a = refl
held_over (f ∷ fs) a =
    elim (holds f a) as (λ t. holds f a ≡ t → is_held (cond t (f ∷ over fs a) (over fs a)) a ≡ (t || is_held fs a)) [
      | true ↦ λ e. ap (λ t. t || is_held (over fs a) a) e
      | false ↦ λ _. held_over fs a
    ] refl

-- what the lists near A and B tell is true of the complex
pub broken_rule_seen : (k : ComplexView) (d : ℕ) (near_a near_b : List (List ℕ)) (a b : List ℕ) → IsNear k d near_a near_b a b → broken_rule_near d near_a near_b a b ≡ broken_rule k a b
broken_rule_seen k d near_a near_b a b h =
    sym (ap (λ n. broken_rule_near n near_a near_b a b) h.dim)
    ∙ (λ i. verdict (has_shape k.dim a b) (held_alike near_a k.facets a h.first i) (same_sets (h.first i) (rising face_cmp (join_boundary a b))) (held_alike near_b k.facets b h.second i))
