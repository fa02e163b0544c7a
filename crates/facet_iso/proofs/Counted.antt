-- A map keeps the number of facets, and the degree of each label.
use Rattle.std.proofs.Common.{◌≡◌, ℕ, Bool, true, false, cond, nat_eq, ◌||◌, List, [], ◌∷◌, length, filter, map, sym, ◌∙◌, ap, refl, arith, inl, inr, get_or}
use Rattle.std.specs.Ordering.{match_ordering, is_eq}
use Rattle.std.specs.Cmp.Lexicographic.{pointwise, nat_list_cmp_total}
use Rattle.std.specs.declared.cmp.Ordering.TheVariants.{Less, Equal, Greater}
use Rattle.complex_core.specs.Labels.{has, face_cmp}
use Rattle.complex_core.specs.Rising.{put, rising}
use Rattle.complex_core.specs.Complexes.{ComplexView, IsComplex, is_facet}
use Rattle.complex_core.specs.Maps.{at, face_image}
use Rattle.complex_core.proofs.Sets.{above_head, above_tail, among, not_among}
use Rattle.complex_core.proofs.Laws.{listed-among, listed-rising, nat_eq_same, or_left, or_right, same_set_itself}
use Rattle.complex_core.proofs.SubsetLists.{two, clash, map_back}
use Rattle.std.specs.List.Sorted.{IsStrictlySortedBy}
use Rattle.facet_iso.specs.Degrees.{degree}
use Rattle.facet_iso.specs.Isomorphisms.{Takes}
use Rattle.facet_iso.specs.Searches.{alike, IsSearch}
use Rattle.facet_iso.specs.declared.search.Search.{Search}
use Rattle.facet_iso.proofs.Images.{has_image, one_facet}

-- how many pass, with one set more that isn't there
put_counted : (p : List ℕ → Bool) (a : List ℕ) (xs : List (List ℕ)) → among face_cmp a xs ≡ false → length (filter p (put face_cmp a xs)) ≡ length (filter p (a ∷ xs))
put_counted p a [] n = refl
put_counted p a (x ∷ xs) n =
    elim (face_cmp a x) as (λ o. (is_eq o || among face_cmp a xs) ≡ false → length (filter p (match_ordering o (a ∷ x ∷ xs) (x ∷ xs) (x ∷ put face_cmp a xs))) ≡ length (filter p (a ∷ x ∷ xs))) [
      | Less ↦ λ _. refl
      | Equal ↦ λ e. clash true refl e
      | Greater ↦ λ e. swapped (p a) (p x) (filter p xs) (filter p (put face_cmp a xs)) (put_counted p a xs e)
    ] n
  where
    swapped : (b c : Bool) (us vs : List (List ℕ)) → length vs ≡ length (cond b (a ∷ us) us) → length (cond c (x ∷ vs) vs) ≡ length (cond b (a ∷ cond c (x ∷ us) us) (cond c (x ∷ us) us))
    swapped true true us vs e = omega (arith, e)
    swapped true false us vs e = e
    swapped false true us vs e = omega (arith, e)
    swapped false false us vs e = e

-- how many images pass one test as the sets pass another, where different sets have different images
images_counted : (h : List ℕ → List ℕ) (p q : List ℕ → Bool) (fs : List (List ℕ)) → IsStrictlySortedBy face_cmp fs → ((f : List ℕ) → is_facet fs f ≡ true → p (h f) ≡ q f) → ((f g : List ℕ) → is_facet fs f ≡ true → is_facet fs g ≡ true → h f ≡ h g → f ≡ g) → length (filter p (rising face_cmp (map h fs))) ≡ length (filter q fs)
images_counted h p q [] s alike one = refl
images_counted h p q (f ∷ fs) s same one =
    put_counted p (h f) (rising face_cmp (map h fs)) (listed-among (rising face_cmp (map h fs)) (h f) ∙ listed-rising (map h fs) (h f) ∙ fresh)
    ∙ first (p (h f)) (q f) (same f here)
    (images_counted h p q fs (above_tail face_cmp f fs s) (λ g t. same g (there g t)) (λ g e t u. one g e (there g t) (there e u)))
  where
    here : is_facet (f ∷ fs) f ≡ true
    here = or_left (pointwise nat_eq f f) (is_facet fs f) (same_set_itself f)

    there : (g : List ℕ) → is_facet fs g ≡ true → is_facet (f ∷ fs) g ≡ true
    there g t = or_right (pointwise nat_eq f g) (is_facet fs g) t

    fresh : is_facet (map h fs) (h f) ≡ false
    fresh = elim (two (is_facet (map h fs) (h f))) [
      | inl e ↦
          let r : (g : List ℕ) × (is_facet fs g ≡ true) × (h f ≡ h g) = map_back h fs (h f) e in
          let e : f ≡ r.0 = one f r.0 here (there r.0 r.1) r.2 in
          clash (is_facet fs f) (ap (is_facet fs) e ∙ r.1) (sym (listed-among fs f) ∙ not_among nat_list_cmp_total f fs (above_head face_cmp f fs s))
      | inr e ↦ e
    ]

    first : (b c : Bool) → b ≡ c → length (filter p (rising face_cmp (map h fs))) ≡ length (filter q fs) → length (cond b (h f ∷ filter p (rising face_cmp (map h fs))) (filter p (rising face_cmp (map h fs)))) ≡ length (cond c (f ∷ filter q fs) (filter q fs))
    first true true e n = omega (arith, n)
    first true false e n = clash true refl e
    first false true e n = clash true refl (sym e)
    first false false e n = n

module _ (k l : ComplexView) (c : IsComplex k) (m : List (ℕ × ℕ)) (t : Takes k l m) where
  pub same_degree : (f : List ℕ) (x : ℕ) → is_facet k.facets f ≡ true → has f x ≡ true → degree k.facets x ≡ degree l.facets (at m x)
  same_degree f x u v = sym (ap (λ d. degree d.facets (at m x)) (sym t.image)
      ∙ images_counted (face_image m) (λ g. has g (at m x)) (λ g. has g x) k.facets c.rising (λ g w. has_image k l m t g f x w u v) (λ g h p q e. one_facet k l m t g h c p q e))

  pub same_number : length k.facets ≡ length l.facets
  same_number = sym (sym (all l.facets) ∙ ap (λ d. length (filter (λ g. true) d.facets)) (sym t.image)
      ∙ images_counted (face_image m) (λ g. true) (λ g. true) k.facets c.rising (λ g w. refl) (λ g h p q e. one_facet k l m t g h c p q e) ∙ all k.facets)
    where
      all : (fs : List (List ℕ)) → length (filter (λ g. true) fs) ≡ length fs
      all [] = refl
      all (g ∷ gs) = omega (arith, all gs)

-- a label and its image have the same degree
pub images_alike : (k l : ComplexView) (s : Search) (m : List (ℕ × ℕ)) (f : List ℕ) (x : ℕ) → IsSearch k l s → Takes k l m → is_facet k.facets f ≡ true → has f x ≡ true → alike s x (at m x) ≡ true
images_alike k l s m f x h t u v =
    ap (λ n. nat_eq n (get_or s.second_degrees.items (at m x) 0)) (h.first_degrees.each x ∙ same_degree k l h.first m t f x u v ∙ sym (h.second_degrees.each (at m x)))
    ∙ nat_eq_same (get_or s.second_degrees.items (at m x) 0)
