-- What is taken out of a star and put in leaves the rows over other sets.
use Rattle.std.proofs.Common.{◌≡◌, inl, inr, ℕ, Bool, true, false, not, ◌||◌, ◌&&◌, List, [], ◌∷◌, ◌++◌, sym, ◌∙◌, ap, refl}
use Rattle.std.specs.List.Sorted.{IsStrictlySortedBy}
use Rattle.std.specs.Cmp.Lexicographic.{nat_list_cmp_total}
use Rattle.std.proofs.lemmas.List.Kept.{IsStrictlySortedBy-filter}
use Rattle.complex_core.specs.Labels.{holds, face_cmp}
use Rattle.complex_core.specs.Complexes.{over, staying, is_facet}
use Rattle.complex_core.proofs.Sets.{sorted_rising}
use Rattle.complex_core.proofs.Laws.{holds_has, holds_each, listed, listed-append, listed-filter, listed-rising, same_lists}
use Rattle.complex_core.proofs.SubsetLists.{two, clash}
use Rattle.star_laws.specs.Stars.{star}
use Rattle.stars.specs.StarViews.{VertexStar, IsStar}
use Rattle.stars.specs.Changes.{star_changed, AreWithin}
use Rattle.stars.specs.CandidateLists.{ChangedWithin}
use Rattle.complex_core.proofs.SetLists.{of_kind}

-- a set within some labels holds no set that has another label
not_over : (labels f set : List ℕ) (fs : List (List ℕ)) → AreWithin labels fs → holds labels set ≡ false → listed fs f ≡ true → holds f set ≡ false
not_over labels f set fs within e t = elim (two (holds f set)) [
  | inl h ↦ clash (holds labels set) (holds_each labels set (λ z u. holds_has labels f z (of_kind (λ g. holds labels g ≡ true) fs f within t) (holds_has f set z h u))) e
  | inr g ↦ g
]

other_row : (p q r v t : Bool) → (q ≡ true → t ≡ false) → (r ≡ true → t ≡ false) → (((p && not q) || (r && v)) && t) ≡ (p && t)
other_row p true r v t h g = lost p t (h refl)
  where
    lost : (p t : Bool) → t ≡ false → (((p && false) || (r && v)) && t) ≡ (p && t)
    lost true t e = ap (λ c. (((true && false) || (r && v)) && c)) e ∙ none ((true && false) || (r && v)) ∙ sym e
      where
        none : (c : Bool) → (c && false) ≡ false
        none true = refl
        none false = refl
    lost false t e = ap (λ c. (((false && false) || (r && v)) && c)) e ∙ none ((false && false) || (r && v))
      where
        none : (c : Bool) → (c && false) ≡ false
        none true = refl
        none false = refl
other_row true false r v t h g = refl
other_row false false true v t h g = ap (λ c. v && c) (g refl) ∙ none v
  where
    none : (c : Bool) → (c && false) ≡ false
    none true = refl
    none false = refl
other_row false false false v t h g = refl

pub rows_stay : (s : VertexStar) (labels set : List ℕ) (out more : List (List ℕ)) → IsStrictlySortedBy face_cmp s.rows → AreWithin labels out → AreWithin labels more → holds labels set ≡ false → over (star_changed out more s).rows set ≡ over s.rows set
rows_stay s labels set out more r gone come e =
    let rows : List (List ℕ) = (star_changed out more s).rows in
    same_lists (over rows set) (over s.rows set)
    (IsStrictlySortedBy-filter face_cmp (λ f. holds f set) rows (sorted_rising nat_list_cmp_total (staying s.rows out ++ star more s.vertex)))
    (IsStrictlySortedBy-filter face_cmp (λ f. holds f set) s.rows r)
    (λ f.
    listed-filter (λ g. holds g set) rows f
    ∙ ap (λ c. c && holds f set)
    (listed-rising (staying s.rows out ++ star more s.vertex) f
    ∙ listed-append (staying s.rows out) (star more s.vertex) f
    ∙ (λ i. listed-filter (λ g. not (is_facet out g)) s.rows f i || listed-filter (λ g. holds g (s.vertex ∷ [])) more f i))
    ∙ other_row (listed s.rows f) (listed out f) (listed more f) (holds f (s.vertex ∷ [])) (holds f set) (not_over labels f set out gone e) (not_over labels f set more come e)
    ∙ sym (listed-filter (λ g. holds g set) s.rows f))

-- so the star changes within these labels
pub changed_within : (s : VertexStar) (labels : List ℕ) (out more : List (List ℕ)) → IsStar s → AreWithin labels out → AreWithin labels more → ChangedWithin labels s (star_changed out more s)
changed_within s labels out more h gone come = record {
  vertex = refl;
  dim = refl;
  rest = λ set e. rows_stay s labels set out more h.rising gone come e;
}
