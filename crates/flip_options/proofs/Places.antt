-- Labels that a complex uses, and the stars of its places.
use Rattle.std.proofs.Common.{◌≡◌, ℕ, ◌<◌, ◌≤◌, get_or, true, nat_eq, ◌&&◌, List, [], ◌∷◌, length, sym, ◌∙◌, ap, subst, arith}
use Rattle.std.specs.List.Sorted.{IsStrictlySortedBy}
use Rattle.std.specs.Ordering.{nat_cmp}
use Rattle.std.specs.Cmp.{first_so, second_so}
use Rattle.std.proofs.lemmas.List.Kept.{IsStrictlySortedBy-filter}
use Rattle.complex_core.specs.Labels.{has, holds, face_cmp}
use Rattle.complex_core.specs.Maps.{used}
use Rattle.complex_core.specs.Complexes.{ComplexView, IsComplex, over}
use Rattle.complex_core.proofs.Sets.{above_head, sorted_none}
use Rattle.complex_core.proofs.Faces.{less_cmp}
use Rattle.complex_core.proofs.SubsetLists.{above_at}
use Rattle.complex_core.proofs.Laws.{listed, listed-filter, same_lists, or_left, or_right, nat_eq_same}
use Rattle.star_laws.specs.Stars.{star}
use Rattle.stars.proofs.Views.{over_star}
use Rattle.stars.specs.StarViews.{StarList, places_in, IsStarListOf}
use Rattle.std.proofs.lemmas.Bool.{false_from_ne_true}
use Rattle.complex_core.proofs.Members.{has_place}
use Rattle.complex_core.proofs.SetLists.{pure_at, used_label}
use Rattle.stars.proofs.Mapping.{has_bound}

-- each label of a facet is a place
pub place_high : (k : ComplexView) (m : StarList) (f : List ℕ) (x : ℕ) → IsStarListOf k m → listed k.facets f ≡ true → has f x ≡ true → x ≤ places_in m
place_high k m f x h t u = has_bound (places_in m) (used k.facets) x h.within (used_label k.facets f x t u)

pub place_low : (k : ComplexView) (f : List ℕ) (x : ℕ) → IsComplex k → listed k.facets f ≡ true → has f x ≡ true → 0 < x
place_low k f x h t u = less_cmp 0 x (above_at 0 x f (above_head nat_cmp 0 f (pure_at k.dim k.facets f h.pure t).face.rising) u)

no_star : (fs : List (List ℕ)) (x : ℕ) → IsStrictlySortedBy face_cmp fs → ((f : List ℕ) → listed fs f ≡ true → has f x ≡ true → ⊥) → [] ≡ star fs x
no_star fs x s none = same_lists [] (star fs x) (sorted_none face_cmp) (IsStrictlySortedBy-filter face_cmp (λ f. holds f (x ∷ [])) fs s) (λ f.
    sym (listed-filter (λ g. holds g (x ∷ [])) fs f ∙ false_from_ne_true (listed fs f && holds f (x ∷ [])) (λ t. none f (first_so (listed fs f) (holds f (x ∷ [])) t) (first_so (has f x) true (second_so (listed fs f) (holds f (x ∷ [])) t)))))

pub star_zero : (k : ComplexView) (m : StarList) (x : ℕ) → x ≡ 0 → IsStarListOf k m → [] ≡ star k.facets x
star_zero k m x e h = no_star k.facets x h.complex.rising (λ f t u. absurd (omega (arith, place_low k f x h.complex t u, e)))

pub star_above : (k : ComplexView) (m : StarList) (x : ℕ) → places_in m < x → IsStarListOf k m → [] ≡ star k.facets x
star_above k m x l h = no_star k.facets x h.complex.rising (λ f t u. absurd (omega (arith, place_high k m f x h t u, l)))

pub none_rises : IsStrictlySortedBy face_cmp []
none_rises = sorted_none face_cmp

pub star_past : (k : ComplexView) (m : StarList) (x n : ℕ) → n ≡ places_in m → n < x → IsStarListOf k m → [] ≡ star k.facets x
star_past k m x n e l h = star_above k m x (omega (arith, e, l)) h

-- rows that are all there near a set
abbrev pub NearSoFar : StarList → List ℕ → List (List ℕ) → Type 0
NearSoFar m set rows = IsStrictlySortedBy face_cmp rows × ((k : ComplexView) → IsStarListOf k m → over rows set ≡ over k.facets set)

near_label : (m : StarList) (set : List ℕ) (x : ℕ) (rows : List (List ℕ)) → has set x ≡ true → IsStrictlySortedBy face_cmp rows → ((k : ComplexView) → IsStarListOf k m → rows ≡ star k.facets x) → NearSoFar m set rows
near_label m set x rows t s h = (s, λ k i. ap (λ fs. over fs set) (h k i) ∙ over_star k.facets set x t)

pub near_first : (m : StarList) (set labels others : List ℕ) (x : ℕ) (rows : List (List ℕ)) → labels ≡ set → labels ≡ x ∷ others → IsStrictlySortedBy face_cmp rows → ((k : ComplexView) → IsStarListOf k m → rows ≡ star k.facets x) → NearSoFar m set rows
near_first m set labels others x rows e p s h = near_label m set x rows (ap (λ xs. has xs x) (sym e ∙ p) ∙ or_left (nat_eq x x) (has others x) (nat_eq_same x)) s h

pub near_other : (m : StarList) (set labels others : List ℕ) (x i : ℕ) (rows now : List (List ℕ)) → labels ≡ set → labels ≡ x ∷ others → i < length others → IsStrictlySortedBy face_cmp rows → ((k : ComplexView) → IsStarListOf k m → rows ≡ star k.facets (get_or others i 0)) → now ≡ rows → NearSoFar m set now
near_other m set labels others x i rows now e p l s h same =
    let P : List (List ℕ) → Type 0 = λ fs. NearSoFar m set fs in
    subst P (sym same) (near_label m set (get_or others i 0) rows (ap (λ xs. has xs (get_or others i 0)) (sym e ∙ p) ∙ or_right (nat_eq x (get_or others i 0)) (has others (get_or others i 0)) (has_place others i l)) s h)

pub near_kept : (m : StarList) (set : List ℕ) (rows now : List (List ℕ)) → NearSoFar m set rows → now ≡ rows → NearSoFar m set now
near_kept m set rows now n same = let P : List (List ℕ) → Type 0 = λ fs. NearSoFar m set fs in subst P (sym same) n
