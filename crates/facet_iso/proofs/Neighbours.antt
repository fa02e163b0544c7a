-- Over a ridge of a thin complex there is at most one facet beside another.
use Rattle.std.proofs.Common.{◌≡◌, ◌≢◌, ℕ, ◌≤◌, Bool, true, false, cond, nat_eq, ◌||◌, ◌&&◌, List, [], ◌∷◌, length, filter, sym, ◌∙◌, ap, refl, arith, inl, inr, Option, Some, None}
use Rattle.std.specs.List.{list_any}
use Rattle.std.specs.List.Sorted.{IsStrictlySortedBy}
use Rattle.std.specs.Ordering.{nat_cmp}
use Rattle.std.specs.Cmp.{first_so, second_so}
use Rattle.std.specs.Cmp.Derive.{both_true}
use Rattle.std.specs.Cmp.Lexicographic.{pointwise}
use Rattle.std.proofs.lemmas.Cmp.{nat_cmp_total}
use Rattle.complex_core.specs.Labels.{has, with, without, holds}
use Rattle.complex_core.specs.Complexes.{ComplexView, IsComplex, is_facet, over}
use Rattle.complex_core.specs.Maps.{at, face_image}
use Rattle.complex_core.proofs.Sets.{put_there_same}
use Rattle.complex_core.proofs.Faces.{among-has}
use Rattle.complex_core.proofs.Laws.{found, has-with, length-without, listed-filter, nat_eq_is, nat_eq_same, or_left, same_set_itself, same_sets_is, some_has, some_listed, sorted_without}
use Rattle.complex_core.proofs.Members.{in_without, with_back, without_gone}
use Rattle.complex_core.proofs.SubsetLists.{two, clash}
use Rattle.pseudo_test.specs.Ridges.{Thin}
use Rattle.pseudo_test.specs.Incidences.{incidences, run_of}
use Rattle.pseudo_test.proofs.Subsets.{holds_without}
use Rattle.pseudo_test.proofs.Incident.{any_incidences, found_set, set, size}
use Rattle.facet_iso.specs.Isomorphisms.{Takes}
use Rattle.facet_iso.specs.Trials.{IsAcross, leads_to}
use Rattle.facet_iso.proofs.Images.{facet_to, image_without, in_image, one_label, without_with}

-- a facet is this ridge and this label
pub record Beyond (facets : List (List ℕ)) (ridge : List ℕ) (label : ℕ) : Type 0 where
  pub facet : List ℕ
  pub there : is_facet facets facet ≡ true
  pub used : has facet label ≡ true
  pub is : without facet label ≡ ridge

any_filter : {X : Type 0} (p q : X → Bool) (xs : List X) → list_any p (filter q xs) ≡ list_any (λ x. q x && p x) xs
any_filter p q [] = refl
any_filter p q (x ∷ xs) =
    elim (q x) as (λ b. list_any p (cond b (x ∷ filter q xs) (filter q xs)) ≡ ((b && p x) || list_any (λ x. q x && p x) xs)) [
      | true ↦ ap (λ b. p x || b) (any_filter p q xs)
      | false ↦ any_filter p q xs
    ]

module _ (fs : List (List ℕ)) (r : List ℕ) (y : ℕ) where
  abbrev makes : List ℕ → ℕ → Bool
  makes f x = pointwise nat_eq (without f x) r && nat_eq x y

  of_facets : leads_to (run_of (incidences fs) r) y ≡ list_any (λ f. list_any (makes f) f) fs
  of_facets = any_filter (λ s. nat_eq s.1 y) (λ s. pointwise nat_eq s.0 r) (incidences fs) ∙ any_incidences (λ s. pointwise nat_eq s.0 r && nat_eq s.1 y) fs

  pub leads_beyond : leads_to (run_of (incidences fs) r) y ≡ true → Beyond fs r y
  leads_beyond t =
      let f : (f : List ℕ) × (is_facet fs f ≡ true) × (list_any (makes f) f ≡ true) = found_set (λ f. list_any (makes f) f) fs (sym of_facets ∙ t) in
      let x : (x : ℕ) × (has f.0 x ≡ true) × (makes f.0 x ≡ true) = found (makes f.0) f.0 f.2 in
      let e : x.0 ≡ y = nat_eq_is x.0 y (second_so (pointwise nat_eq (without f.0 x.0) r) (nat_eq x.0 y) x.2) in
      record {
        facet = f.0;
        there = f.1;
        used = ap (has f.0) (sym e) ∙ x.1;
        is = ap (without f.0) (sym e) ∙ same_sets_is (without f.0 x.0) r (first_so (pointwise nat_eq (without f.0 x.0) r) (nat_eq x.0 y) x.2);
      }

  pub beyond_leads : Beyond fs r y → leads_to (run_of (incidences fs) r) y ≡ true
  beyond_leads b = of_facets ∙ some_listed (λ f. list_any (makes f) f) fs b.facet b.there (some_has (makes b.facet) b.facet y b.used (both_true (ap (λ m. pointwise nat_eq m r) b.is ∙ same_set_itself r) (nat_eq_same y)))

-- among two there is no third
third : (fs : List (List ℕ)) (f g h : List ℕ) → length fs ≤ 2 → is_facet fs f ≡ true → is_facet fs g ≡ true → is_facet fs h ≡ true → (g ≢ f) → (h ≢ f) → g ≡ h
third [] f g h n t u v p q = clash true refl (sym t)
third (a ∷ []) f g h n t u v p q = absurd (p (sym (only a g u) ∙ only a f t))
  where
    only : (a c : List ℕ) → is_facet (a ∷ []) c ≡ true → a ≡ c
    only a c w = same_sets_is a c (last (pointwise nat_eq a c) w)
      where
        last : (b : Bool) → (b || false) ≡ true → b ≡ true
        last true e = refl
        last false e = e
third (a ∷ b ∷ []) f g h n t u v p q = elim (two (pointwise nat_eq a f)) [
  | inl e ↦ let af : a ≡ f = same_sets_is a f e in sym (second a b g u (λ w. p (sym w ∙ af))) ∙ second a b h v (λ w. q (sym w ∙ af))
  | inr e ↦
      let bf : b ≡ f = second a b f t (λ w. clash {P = ⊥} (pointwise nat_eq a f) (ap (λ c. pointwise nat_eq c f) w ∙ same_set_itself f) e) in
      sym (first a b g u (λ w. p (sym w ∙ bf))) ∙ first a b h v (λ w. q (sym w ∙ bf))
]
  where
    last : (b : Bool) → (b || false) ≡ true → b ≡ true
    last true e = refl
    last false e = e

    second : (a b c : List ℕ) → is_facet (a ∷ b ∷ []) c ≡ true → (a ≢ c) → b ≡ c
    second a b c w n = elim (two (pointwise nat_eq a c)) [
      | inl e ↦ absurd (n (same_sets_is a c e))
      | inr e ↦ same_sets_is b c (last (pointwise nat_eq b c) (sym (ap (λ d. d || (pointwise nat_eq b c || false)) e) ∙ w))
    ]

    first : (a b c : List ℕ) → is_facet (a ∷ b ∷ []) c ≡ true → (b ≢ c) → a ≡ c
    first a b c w n = elim (two (pointwise nat_eq a c)) [
      | inl e ↦ same_sets_is a c e
      | inr e ↦ absurd (n (same_sets_is b c (last (pointwise nat_eq b c) (sym (ap (λ d. d || (pointwise nat_eq b c || false)) e) ∙ w))))
    ]
third (a ∷ b ∷ c ∷ fs) f g h n t u v p q = absurd (omega (arith, n))

-- facets over a ridge differ in the label that it lacks
facets_differ : (fs : List (List ℕ)) (r : List ℕ) (x y : ℕ) (b : Beyond fs r x) (c : Beyond fs r y) → (y ≢ x) → c.facet ≢ b.facet
facets_differ fs r x y b c n e =
    let u : has r y ≡ true = ap (λ m. has m y) (sym b.is) ∙ in_without b.facet x y (ap (λ m. has m y) (sym e) ∙ c.used) n in
    clash {P = ⊥} (has r y) u (ap (λ m. has m y) (sym c.is) ∙ without_gone c.facet y)

-- beside one facet over a ridge there is at most one
pub one_beyond : (l : ComplexView) (r : List ℕ) (x y z : ℕ) → IsComplex l → Thin l.facets → Beyond l.facets r x → Beyond l.facets r y → Beyond l.facets r z → (y ≢ x) → (z ≢ x) → z ≡ y
one_beyond l r x y z c thin bx by bz ny nz =
    elim (two (nat_eq z y)) [
      | inl e ↦ nat_eq_is z y e
      | inr e ↦ absurd (facets_differ l.facets r y z by bz (λ w. clash {P = ⊥} (nat_eq z y) (ap (nat_eq z) (sym w) ∙ nat_eq_same z) e) (sym one))
    ]
  where
    over_it : (v : ℕ) (b : Beyond l.facets r v) → is_facet (over l.facets r) b.facet ≡ true
    over_it v b = listed-filter (λ f. holds f r) l.facets b.facet ∙ both_true b.there (ap (holds b.facet) (sym b.is) ∙ holds_without b.facet v)

    one : by.facet ≡ bz.facet
    one = third (over l.facets r) bx.facet by.facet bz.facet
        (thin.at_most r (record { facet = bx.facet; label = x; there = bx.there; used = bx.used; is = sym bx.is }))
        (over_it x bx) (over_it y by) (over_it z bz) (facets_differ l.facets r x y bx by ny) (facets_differ l.facets r x z bx bz nz)

-- ---- a step over a ridge, and what a map makes of it

module _ (k l : ComplexView) (c : IsComplex k) (m : List (ℕ × ℕ)) (t : Takes k l m) (f : List ℕ) (x y : ℕ) (u : is_facet k.facets f ≡ true) (v : has f x ≡ true) (w : is_facet k.facets (with (without f x) y) ≡ true) (n : with (without f x) y ≢ f) where
  abbrev ridge : List ℕ
  ridge = without f x

  abbrev next : List ℕ
  next = with (without f x) y

  ridge_rises : IsStrictlySortedBy nat_cmp (without f x)
  ridge_rises = sorted_without f x (set k c f u)

  fresh : has (without f x) y ≡ false
  fresh = elim (two (has (without f x) y)) [
    | inl e ↦
        let same : with (without f x) y ≡ without f x = put_there_same nat_cmp_total y (without f x) ridge_rises (among-has y (without f x) ∙ e) in
        absurd (omega (arith, ap length same, size k c (with (without f x) y) w, size k c f u, length-without f x (set k c f u) v))
    | inr e ↦ e
  ]

  used : has (with (without f x) y) y ≡ true
  used = has-with (without f x) y y ∙ or_left (nat_eq y y) (has (without f x) y) (nat_eq_same y)

  other : y ≢ x
  other e = n (ap (with (without f x)) e ∙ with_back f x (set k c f u) v)

  -- the images of the two labels differ
  pub images_differ : at m y ≢ at m x
  images_differ e = other (one_label k l m t (with (without f x) y) f y x w u used v e)

  pub first_beyond : Beyond l.facets (without (face_image m f) (at m x)) (at m x)
  first_beyond = record { facet = face_image m f; there = facet_to k l m t f u; used = in_image m f x v; is = refl }

  next_ridge : without (face_image m (with (without f x) y)) (at m y) ≡ without (face_image m f) (at m x)
  next_ridge = sym (image_without k l m t (with (without f x) y) y w used) ∙ ap (face_image m) (without_with (without f x) y ridge_rises fresh) ∙ image_without k l m t f x u v

  pub next_beyond : Beyond l.facets (without (face_image m f) (at m x)) (at m y)
  next_beyond = record { facet = face_image m (with (without f x) y); there = facet_to k l m t (with (without f x) y) w; used = in_image m (with (without f x) y) y used; is = next_ridge }

  -- the image of the next facet is the ridge's image and the label's
  pub next_image : IsComplex l → with (without (face_image m f) (at m x)) (at m y) ≡ face_image m (with (without f x) y)
  next_image d = ap (λ r. with r (at m y)) (sym next_ridge) ∙ with_back (face_image m (with (without f x) y)) (at m y) (set l d (face_image m (with (without f x) y)) (facet_to k l m t (with (without f x) y) w)) (in_image m (with (without f x) y) y used)

  -- so what is found across the ridge's image is the label's image
  pub across_is : IsComplex l → Thin l.facets → (result : Option ℕ) → IsAcross (run_of (incidences l.facets) (without (face_image m f) (at m x))) (at m x) result → result ≡ Some (at m y)
  across_is d thin None h = absurd (images_differ (h (at m y) (beyond_leads l.facets (without (face_image m f) (at m x)) (at m y) next_beyond)))
  across_is d thin (Some z) h = ap Some (one_beyond l (without (face_image m f) (at m x)) (at m x) (at m y) z d thin first_beyond next_beyond (leads_beyond l.facets (without (face_image m f) (at m x)) z h.1) images_differ h.0)
