-- Stars of one complex.
use Rattle.std.proofs.Common.{◌≡◌, ℕ, ◌≤◌, true, List, [], ◌∷◌, sym, ◌∙◌, ap, refl, subst, arith}
use Rattle.std.specs.Cmp.Derive.{both_true}
use Rattle.complex_core.specs.Labels.{has, holds, face_cmp}
use Rattle.complex_core.specs.Complexes.{ComplexView, over}
use Rattle.complex_core.proofs.Sets.{sorted_none}
use Rattle.complex_core.proofs.Laws.{holds_has}
use Rattle.flip_rules.specs.Flips.{IsNear}
use Rattle.star_laws.specs.Stars.{star}
use Rattle.stars.specs.StarViews.{VertexStar, IsStar, IsStarOf}
use Rattle.stars.specs.CandidateLists.{CandidateList, AreLists}
use Rattle.star_laws.proofs.FlipStars.{filter_within}

pub empty_is_star : (vertex dim : ℕ) (rows : List (List ℕ)) → rows ≡ [] → 1 ≤ vertex → dim ≤ 6 → IsStar (record { vertex = vertex; dim = dim; rows = rows })
empty_is_star vertex dim rows e pos low =
    let P : List (List ℕ) → Type 0 = λ fs. IsStar (record { vertex = vertex; dim = dim; rows = fs }) in
    subst P (sym e) (record { vertex = omega (arith, pos); low = low; rising = sorted_none face_cmp; pure = tt; held = tt })

-- with no lists
pub empty_star : (vertex dim : ℕ) (rows : List (List ℕ)) (lists : List CandidateList) → rows ≡ [] → lists ≡ [] → 1 ≤ vertex → dim ≤ 6 → IsStar (record { vertex = vertex; dim = dim; rows = rows }) × AreLists (record { vertex = vertex; dim = dim; rows = rows }) lists
empty_star vertex dim rows lists e none pos low =
    let P : List CandidateList → Type 0 = λ ls. AreLists (record { vertex = vertex; dim = dim; rows = rows }) ls in
    (empty_is_star vertex dim rows e pos low, subst P (sym none) tt)

-- a star once more, whose lists are right where the old ones were
pub same_star : (s t : VertexStar) (old new : List CandidateList) → t ≡ s → IsStar s × AreLists s old → ((r : VertexStar) → AreLists r old → AreLists r new) → IsStar t × AreLists t new
same_star s t old new e h f = let P : VertexStar → Type 0 = λ r. IsStar r × AreLists r new in subst P (sym e) (h.0, f s h.1)

-- what contains a set lies in the star of each of its labels
pub over_star : (fs : List (List ℕ)) (a : List ℕ) (x : ℕ) → has a x ≡ true → over (star fs x) a ≡ over fs a
over_star fs a x t = sym (filter_within (λ f. holds f a) (λ f. holds f (x ∷ [])) fs (λ f h. both_true (holds_has f a x h t) refl))

-- the stars of one label of A and of one of B are near the flip
pub near_stars : (k : ComplexView) (s t : VertexStar) (a b : List ℕ) → IsStarOf k s → IsStarOf k t → has a s.vertex ≡ true → has b t.vertex ≡ true → IsNear k s.dim s.rows t.rows a b
near_stars k s t a b p q ha hb = record {
  dim = sym p.dim;
  first = ap (λ fs. over fs a) p.rows ∙ over_star k.facets a s.vertex ha;
  second = ap (λ fs. over fs b) q.rows ∙ over_star k.facets b t.vertex hb;
}

-- the same, of what a program has of them
pub near_shown : (k : ComplexView) (s t : VertexStar) (d x y : ℕ) (near_a near_b : List (List ℕ)) (a b : List ℕ) → d ≡ s.dim → near_a ≡ s.rows → near_b ≡ t.rows → s.vertex ≡ x → t.vertex ≡ y → has a x ≡ true → has b y ≡ true → IsStarOf k s → IsStarOf k t → IsNear k d near_a near_b a b
near_shown k s t d x y near_a near_b a b ed ea eb ex ey ha hb p q =
    let n : IsNear k s.dim s.rows t.rows a b = near_stars k s t a b p q (ap (has a) ex ∙ ha) (ap (has b) ey ∙ hb) in
    record {
      dim = n.dim ∙ sym ed;
      first = ap (λ fs. over fs a) ea ∙ n.first;
      second = ap (λ fs. over fs b) eb ∙ n.second;
    }
