-- Which faces were looked at again so far, in each loop.
use Rattle.std.proofs.Common.{◌≡◌, ℕ, ◌+◌, ◌<◌, ◌≤◌, Bool, true, false, not, nat_eq, ◌||◌, ◌&&◌, List, [], ◌∷◌, length, take, get_or, sym, ◌∙◌, ap, refl, subst, arith, ◌⊎◌, inl, inr}
use Rattle.std.specs.List.Sorted.{IsStrictlySortedBy}
use Rattle.std.specs.Ordering.{nat_cmp}
use Rattle.std.specs.Cmp.{second_so}
use Rattle.std.specs.Cmp.Derive.{both_true}
use Rattle.std.proofs.lemmas.Bool.{cases_lt, or_cases}
use Rattle.std.proofs.lemmas.List.{take_more, take_all}
use Rattle.complex_core.proofs.Sets.{above_tail}
use Rattle.complex_core.specs.Labels.{IsFace, has, holds, union, without}
use Rattle.complex_core.specs.Links.{less}
use Rattle.complex_core.specs.Complexes.{ComplexView, over, is_facet}
use Rattle.complex_core.specs.Subsets.{IsSubset}
use Rattle.complex_core.proofs.Laws.{has-union, has-without, holds_each, or_left, or_right, listed, listed-append, listed-filter, nat_eq_same, same_labels, sorted_union, length-without}
use Rattle.flip_rules.proofs.Links.{side}
use Rattle.stars.specs.StarViews.{StarList, IsStarListOf}
use Rattle.flip_options.specs.Candidates.{Candidates, Refreshed, FirstLook, IsPartBelow, IsPartAt, IsLinked}
use Rattle.flip_options.proofs.Refreshing.{refreshed_then, refreshed_so, first_then}
use Rattle.flip_options.proofs.Joining.{next_row}
use Rattle.complex_core.proofs.SubsetLists.{clash}
use Rattle.complex_core.proofs.Members.{sorted_less, has-less}
use Rattle.descent_laws.proofs.Edges.{one_listed}

next_set : (xs : List (List ℕ)) (i : ℕ) (x f : List ℕ) → i < length xs → x ≡ get_or xs i x → is_facet (take (i + 1) xs) f ≡ true → (is_facet (take i xs) f ≡ true) ⊎ (f ≡ x)
next_set xs i x f l e t = elim (or_cases (listed (take i xs) f) (listed (get_or xs i x ∷ []) f) (sym (listed-append (take i xs) (get_or xs i x ∷ []) f) ∙ ap (λ gs. listed gs f) (sym (take_more xs i x l)) ∙ t)) [
  | inl p ↦ inl p
  | inr p ↦ inr (one_listed (get_or xs i x) f p ∙ sym e)
]

-- ---- the parts of one size

pub sized_next : (s : StarList) (m n o : Candidates) (xs : List (List ℕ)) (i : ℕ) (x : List ℕ) → Refreshed s m n (λ k a. is_facet (take i xs) a ≡ true) → Refreshed s n o (λ k a. a ≡ x) → i < length xs → x ≡ get_or xs i x → Refreshed s m o (λ k a. is_facet (take (i + 1) xs) a ≡ true)
sized_next s m n o xs i x p q l e = refreshed_then s m n o (λ k a. is_facet (take i xs) a ≡ true) (λ k a. a ≡ x) (λ k a. is_facet (take (i + 1) xs) a ≡ true) p q (λ k h a t. next_set xs i x a l e t)

-- ---- the parts of all sizes

pub parts_next : (s : StarList) (m n o : Candidates) (set : List ℕ) (size : ℕ) → Refreshed s m n (λ k a. IsPartBelow size set a) → Refreshed s n o (λ k a. IsSubset set size a) → Refreshed s m o (λ k a. IsPartBelow (size + 1) set a)
parts_next s m n o set size p q = refreshed_then s m n o (λ k a. IsPartBelow size set a) (λ k a. IsSubset set size a) (λ k a. IsPartBelow (size + 1) set a) p q (λ k h a t. elim (cases_lt t.size size) [
  | inl l ↦ inl (record { size = t.size; low = t.low; high = l; is = t.is })
  | inr g ↦ let e : t.size ≡ size = omega (arith, g, t.high) in let P : ℕ → Type 0 = λ z. IsSubset set z a in inr (subst P e t.is)
])

-- ---- all places

pub record PlacedBelow (place : ℕ) (k : ComplexView) (a : List ℕ) : Type 0 where
  pub at : ℕ
  pub high : at < place
  pub is : IsPartAt k (at + 1) a

pub places_next : (s : StarList) (m n o : Candidates) (place : ℕ) → FirstLook s m n (λ k a. PlacedBelow place k a) → FirstLook s n o (λ k a. IsPartAt k (place + 1) a) → FirstLook s m o (λ k a. PlacedBelow (place + 1) k a)
places_next s m n o place p q = first_then s m n o (λ k a. PlacedBelow place k a) (λ k a. IsPartAt k (place + 1) a) (λ k a. PlacedBelow (place + 1) k a) p q (λ k h a t. elim (cases_lt t.at place) [
  | inl l ↦ inl (record { at = t.at; high = l; is = t.is })
  | inr g ↦ let e : t.at ≡ place = omega (arith, g, t.high) in let P : ℕ → Type 0 = λ z. IsPartAt k (z + 1) a in inr (subst P e t.is)
])

-- ---- what is linked with one B

pub record IsLeft (rows : List (List ℕ)) (rest other : List ℕ) (i : ℕ) (a : List ℕ) : Type 0 where
  pub facet : List ℕ
  pub there : is_facet (over (take i rows) rest) facet ≡ true
  pub is : a ≡ less facet other

pub left_next : (s : StarList) (m n o : Candidates) (rows : List (List ℕ)) (rest other : List ℕ) (i : ℕ) (x y : List ℕ) → Refreshed s m n (λ k a. IsLeft rows rest other i a) → Refreshed s n o (λ k a. a ≡ y) → y ≡ less x other → i < length rows → x ≡ get_or rows i x → Refreshed s m o (λ k a. IsLeft rows rest other (i + 1) a)
left_next s m n o rows rest other i x y p q is l e = refreshed_then s m n o (λ k a. IsLeft rows rest other i a) (λ k a. a ≡ y) (λ k a. IsLeft rows rest other (i + 1) a) p q (λ k h a t. elim (next_row rows rest i x t.facet l e t.there) [
  | inl u ↦ inl (record { facet = t.facet; there = u; is = t.is })
  | inr u ↦ inr (t.is ∙ ap (λ f. less f other) u ∙ sym is)
])

pub left_skip : (s : StarList) (m n : Candidates) (rows : List (List ℕ)) (rest other : List ℕ) (i : ℕ) (x : List ℕ) → Refreshed s m n (λ k a. IsLeft rows rest other i a) → holds x rest ≡ false → i < length rows → x ≡ get_or rows i x → Refreshed s m n (λ k a. IsLeft rows rest other (i + 1) a)
left_skip s m n rows rest other i x p outside l e = refreshed_so s m n (λ k a. IsLeft rows rest other i a) (λ k a. IsLeft rows rest other (i + 1) a) p (λ k h a t. elim (next_row rows rest i x t.facet l e t.there) [
  | inl u ↦ record { facet = t.facet; there = u; is = t.is }
  | inr u ↦ clash (holds x rest) (ap (λ f. holds f rest) (sym u) ∙ second_so (listed (take (i + 1) rows) t.facet) (holds t.facet rest) (sym (listed-filter (λ g. holds g rest) (take (i + 1) rows) t.facet) ∙ t.there)) outside
])

-- A is what is left of A with B less one label, without B
left_is : (a b : List ℕ) (x : ℕ) → IsStrictlySortedBy nat_cmp a → ((z : ℕ) → has a z ≡ true → has b z ≡ false) → a ≡ less (side a b x) b
left_is a b x s apart = sym (same_labels (less (side a b x) b) a (sorted_less (side a b x) b (sorted_union a (without b x) s)) s (λ z.
    has-less (side a b x) b z ∙ ap (λ c. c && not (has b z)) (has-union a (without b x) z ∙ ap (λ c. has a z || c) (has-without b x z)) ∙ candidates (has a z) (has b z) (not (nat_eq z x)) (apart z)))
  where
    candidates : (p q r : Bool) → (p ≡ true → q ≡ false) → ((p || (q && r)) && not q) ≡ p
    candidates true true r h = sym (h refl)
    candidates true false r h = refl
    candidates false true true h = refl
    candidates false true false h = refl
    candidates false false r h = refl

first_in : (b : List ℕ) (x : ℕ) → x ≡ get_or b 0 0 → 0 < length b → has b x ≡ true
first_in [] x e n = absurd (omega (arith, n))
first_in (y ∷ ys) x e n = or_left (nat_eq y x) (has ys x) (ap (λ z. nat_eq z x) (sym e) ∙ nat_eq_same x)

pub left_end : (s : StarList) (m n : Candidates) (rows : List (List ℕ)) (rest other shown : List ℕ) (i : ℕ) → Refreshed s m n (λ k a. IsLeft rows rest other i a) → length rows ≤ i → shown ≡ other → rest ≡ without other (get_or shown 0 0) → 2 ≤ length other → IsFace other → ((k : ComplexView) → IsStarListOf k s → 0 < length rest → over rows rest ≡ over k.facets rest) → Refreshed s m n (λ k a. IsLinked k a other)
left_end s m n rows rest other shown i p l e is big face near = refreshed_so s m n (λ k a. IsLeft rows rest other i a) (λ k a. IsLinked k a other) p (λ k h a t.
    let x : ℕ = get_or other 0 0 in
    let used : has other (get_or other 0 0) ≡ true = first_in other (get_or other 0 0) refl (omega (arith, big)) in
    let r : rest ≡ without other (get_or other 0 0) = is ∙ ap (λ zs. without other (get_or zs 0 0)) e in
    let some : 0 < length rest = omega (arith, big, ap length r, length-without other (get_or other 0 0) (above_tail nat_cmp 0 other face.rising) used) in
    record {
      facet = side a other (get_or other 0 0);
      there = ap (λ gs. is_facet (over gs rest) (side a other (get_or other 0 0))) (take_all i rows l) ∙ ap (λ gs. is_facet gs (side a other (get_or other 0 0))) (near k h some) ∙ listed-filter (λ g. holds g rest) k.facets (side a other (get_or other 0 0)) ∙ both_true (t.there (get_or other 0 0) used) (ap (holds (side a other (get_or other 0 0))) r ∙ second_part a (without other (get_or other 0 0)));
      is = left_is a other (get_or other 0 0) t.rising t.apart;
    })
  where
    second_part : (f g : List ℕ) → holds (union f g) g ≡ true
    second_part f g = holds_each (union f g) g (λ z t. has-union f g z ∙ or_right (has f z) (has g z) t)
