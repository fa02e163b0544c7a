-- A trial: the images of all labels from those of the least facet's, and the map that they make.
use Rattle.std.proofs.Common.{zero, suc, ◌≡◌, ℕ, ◌<◌, ◌≤◌, ◌+◌, Bool, true, false, cond, nat_eq, ◌||◌, List, [], ◌∷◌, ◌++◌, length, map, take, get_or, sym, ◌∙◌, ap, refl, subst, arith, inl, inr, Option, Some, None, is_some}
use Rattle.std.specs.List.{flat_map}
use Rattle.std.specs.List.Sorted.{IsStrictlySortedBy}
use Rattle.std.specs.Ordering.{nat_cmp, is_eq}
use Rattle.std.specs.Cmp.Lexicographic.{pointwise}
use Rattle.std.proofs.lemmas.Bool.Decides.{nat_tests}
use Rattle.std.proofs.lemmas.List.Folds.{list_any-append}
use Rattle.complex_core.specs.Labels.{IsFace, has}
use Rattle.complex_core.specs.Rising.{rising}
use Rattle.complex_core.specs.Complexes.{ComplexView, IsComplex, is_facet}
use Rattle.complex_core.specs.Maps.{at, face_image, used}
use Rattle.complex_core.proofs.Sets.{above_head, above_tail, not_among}
use Rattle.complex_core.proofs.Faces.{among-has}
use Rattle.complex_core.proofs.Laws.{nat_eq_is, nat_eq_same, or_left, or_right, same_set_itself, same_sets_is}
use Rattle.complex_core.proofs.Members.{has-map, has-rising, has_snoc, label_low, taken_more}
use Rattle.complex_core.proofs.SetLists.{pure_at}
use Rattle.complex_core.proofs.SubsetLists.{two, clash}
use Rattle.std.proofs.lemmas.Cmp.{nat_cmp_total}
use Rattle.pseudo_test.specs.Incidences.{incidences_of}
use Rattle.pseudo_test.proofs.Incident.{rising_incidences}
use Rattle.pseudo_test.proofs.Spreading.{has_at, listed_at}
use Rattle.facet_iso.specs.Walks.{IsStep}
use Rattle.facet_iso.specs.Isomorphisms.{least_facet}
use Rattle.facet_iso.specs.Searches.{IsSearch, IsSound}
use Rattle.facet_iso.specs.Trials.{AreImages, image_in, IsNext, IsSpread}
use Rattle.facet_iso.specs.declared.search.Search.{Search}
use Rattle.facet_iso.specs.declared.walk.Step.{Step}

pub sound_of : (k l : ComplexView) (s : Search) → IsSearch k l s → IsSound s
sound_of k l s h = record {
  first_degrees = h.first_degrees.all;
  second_degrees = h.second_degrees.all;
  earlier = λ p none b. (h.walk.leads.each p none b).earlier;
  rising = rising_incidences (flat_map incidences_of l.facets) s.incidences.items h.incidences;
}

-- a used label is in a facet
pub in_used : (fs : List (List ℕ)) (x : ℕ) → has (used fs) x ≡ true → (f : List ℕ) × (is_facet fs f ≡ true) × (has f x ≡ true)
in_used fs x t = within fs (sym (has-rising (flat_map (λ f. f) fs) x) ∙ t)
  where
    within : (gs : List (List ℕ)) → has (flat_map (λ f. f) gs) x ≡ true → (f : List ℕ) × (is_facet gs f ≡ true) × (has f x ≡ true)
    within [] u = clash true refl (sym u)
    within (g ∷ gs) u = elim (two (has g x)) [
      | inl e ↦ (g, or_left (pointwise nat_eq g g) (is_facet gs g) (same_set_itself g), e)
      | inr e ↦
          let r : (f : List ℕ) × (is_facet gs f ≡ true) × (has f x ≡ true) = within gs (sym (ap (λ b. b || has (flat_map (λ f. f) gs) x) e) ∙ sym (list_any-append (λ y. nat_eq y x) g (flat_map (λ f. f) gs)) ∙ u) in
          (r.0, or_right (pointwise nat_eq g r.0) (is_facet gs r.0) r.1, r.2)
    ]

-- a facet stands somewhere
place_of : (fs : List (List ℕ)) (f : List ℕ) → is_facet fs f ≡ true → (j : ℕ) × (j < length fs) × (get_or fs j [] ≡ f)
place_of [] f t = clash true refl (sym t)
place_of (g ∷ gs) f t = elim (two (pointwise nat_eq g f)) [
  | inl e ↦ (0, omega arith, same_sets_is g f e)
  | inr e ↦ let p : (j : ℕ) × (j < length gs) × (get_or gs j [] ≡ f) = place_of gs f (sym (ap (λ b. b || is_facet gs f) e) ∙ t) in (suc p.0, omega (arith, p.1), p.2)
]

-- the least facet is one
pub least_there : (k : ComplexView) → IsComplex k → is_facet k.facets (least_facet k) ≡ true
least_there k c = listed_at k.facets 0 [] c.some

-- ---- the images of the least facet's labels

-- what is known of the first of them
pub record Begun (labels order : List ℕ) (images : ℕ → Option ℕ) (position : ℕ) : Type 0 where
  pub images_are : map (image_in images) (take position labels) ≡ take position order
  pub known : (x : ℕ) → is_some (images x) ≡ has (take position labels) x

pub map_alike : (h g : ℕ → ℕ) (xs : List ℕ) → ((x : ℕ) → has xs x ≡ true → h x ≡ g x) → map h xs ≡ map g xs
map_alike h g [] f = refl
map_alike h g (x ∷ xs) f = λ i. f x (or_left (nat_eq x x) (has xs x) (nat_eq_same x)) i ∷ map_alike h g xs (λ z t. f z (or_right (nat_eq x z) (has xs z) t)) i

map_push : (h : ℕ → ℕ) (xs : List ℕ) (x : ℕ) → map h (xs ++ x ∷ []) ≡ map h xs ++ h x ∷ []
map_push h [] x = refl
map_push h (y ∷ ys) x = ap (λ zs. h y ∷ zs) (map_push h ys x)

-- a label that stands behind others isn't one of them
pub later_new : (xs : List ℕ) (i x : ℕ) → IsStrictlySortedBy nat_cmp xs → i < length xs → x ≡ get_or xs i x → has (take i xs) x ≡ false
later_new [] i x s l e = absurd (omega (arith, l))
later_new (y ∷ ys) zero x s l e = refl
later_new (y ∷ ys) (suc i) x s l e = elim (two (nat_eq y x)) [
  | inl q ↦
      let there : has ys x ≡ true = has_at ys i x (omega (arith, l)) e in
      clash (has ys y) (ap (has ys) (nat_eq_is y x q) ∙ there) (sym (among-has y ys) ∙ not_among nat_cmp_total y ys (above_head nat_cmp y ys s))
  | inr q ↦ ap (λ b. b || has (take i ys) x) q ∙ later_new ys i x (above_tail nat_cmp y ys s) (omega (arith, l)) e
]

pub begun_next : (labels order : List ℕ) (old new : ℕ → Option ℕ) (i x y : ℕ) → IsStrictlySortedBy nat_cmp labels → length labels ≡ length order → Begun labels order old i → i < length labels → x ≡ get_or labels i x → y ≡ get_or order i y → ((q : ℕ) → new q ≡ cond (is_eq (nat_cmp x q)) (Some y) (old q)) → Begun labels order new (i + 1)
begun_next labels order old new i x y s n b l ex ey u = record {
  images_are = ap (map (image_in new)) (taken_more labels i x l ex) ∙ map_push (image_in new) (take i labels) x
      ∙ (λ j. (map_alike (image_in new) (image_in old) (take i labels) (λ z t. ap (λ o. image_in (λ v. o) 0) (other z (differ z t))) ∙ b.images_are) j ++ (ap (λ o. image_in (λ v. o) 0) here) j ∷ [])
      ∙ sym (taken_more order i y (omega (arith, l, n)) ey);
  known = λ z. elim (two (nat_eq x z)) [
    | inl e ↦ ap is_some (ap new (sym (nat_eq_is x z e)) ∙ here) ∙ sym (ap (λ zs. has zs z) (taken_more labels i x l ex) ∙ has_snoc (take i labels) x z ∙ or_right (has (take i labels) z) (nat_eq x z) e)
    | inr e ↦ ap is_some (other z e) ∙ b.known z ∙ sym (ap (λ zs. has zs z) (taken_more labels i x l ex) ∙ has_snoc (take i labels) x z ∙ ap (λ c. has (take i labels) z || c) e ∙ or_none (has (take i labels) z))
  ];
}
  where
    or_none : (c : Bool) → (c || false) ≡ c
    or_none true = refl
    or_none false = refl

    tied : (z : ℕ) → is_eq (nat_cmp x z) ≡ nat_eq x z
    tied z = grind (arith, nat_tests)

    here : new x ≡ Some y
    here = u x ∙ ap (λ c. cond c (Some y) (old x)) (tied x ∙ nat_eq_same x)

    other : (z : ℕ) → nat_eq x z ≡ false → new z ≡ old z
    other z e = u z ∙ ap (λ c. cond c (Some y) (old z)) (tied z ∙ e)

    differ : (z : ℕ) → has (take i labels) z ≡ true → nat_eq x z ≡ false
    differ z t = elim (two (nat_eq x z)) [
      | inl e ↦ clash (has (take i labels) x) (ap (has (take i labels)) (nat_eq_is x z e) ∙ t) (later_new labels i x s l ex)
      | inr e ↦ e
    ]

abbrev tail : List ℕ → List ℕ
tail [] = []
tail (z ∷ zs) = zs

-- equal lists of images are equal at each label
pub maps_alike : (h g : ℕ → ℕ) (xs : List ℕ) (x : ℕ) → map h xs ≡ map g xs → has xs x ≡ true → h x ≡ g x
maps_alike h g [] x e t = clash true refl (sym t)
maps_alike h g (y ∷ ys) x e t = elim (two (nat_eq y x)) [
  | inl q ↦ let r : h y ≡ g y = ap (λ zs. get_or zs 0 0) e in let p : y ≡ x = nat_eq_is y x q in ap h (sym p) ∙ r ∙ ap g p
  | inr q ↦ maps_alike h g ys x (ap tail e) (sym (ap (λ b. b || has ys x) q) ∙ t)
]

pub known_image : (images : ℕ → Option ℕ) (x y : ℕ) → images x ≡ Some y → image_in images x ≡ y
known_image images x y e = ap (λ o. image_in (λ v. o) 0) e

pub known_value : (images : ℕ → Option ℕ) (x : ℕ) → is_some (images x) ≡ true → images x ≡ Some (image_in images x)
known_value images x t = go (images x) t
  where
    go : (o : Option ℕ) → is_some o ≡ true → o ≡ Some (image_in (λ v. o) 0)
    go None u = clash true refl (sym u)
    go (Some y) u = refl

pub spread_begun : (k l : ComplexView) (s : Search) (facet order : List ℕ) (images : ℕ → Option ℕ) (faces : List (List ℕ)) (h : IsSearch k l s) → is_facet l.facets facet ≡ true → rising nat_cmp order ≡ facet → map (image_in images) s.least ≡ order → ((x : ℕ) → is_some (images x) ≡ has s.least x) → faces ≡ facet ∷ [] → IsSpread k l order h.walk.reached (length faces) images faces
spread_begun k l s facet order images faces h there er eo known ef =
    let P : List (List ℕ) → Type 0 = λ fs. IsSpread k l order h.walk.reached (length fs) images fs in
    subst P (sym ef) (record {
      known = λ j x b t. known x ∙ ap (λ f. has f x) (least_is ∙ sym (ap (λ n. get_or h.walk.reached n []) (first j b))) ∙ t;
      positive = λ x y e. label_low facet y face (sym (ap (λ f. has f y) er) ∙ has-rising order y ∙ in_order x y e);
      starts = ap (map (image_in images)) (sym h.least) ∙ eo;
      agrees = λ m t o x y e. maps_alike (at m) (image_in images) s.least x (ap (map (at m)) h.least ∙ o ∙ sym eo) (used_first x y e) ∙ known_image images x y e;
      onto = λ m t o j b. ap (λ n. get_or (facet ∷ []) n []) (first j b) ∙ sym er ∙ ap (rising nat_cmp) (sym o) ∙ ap (face_image m) (sym h.walk.begins ∙ ap (λ n. get_or h.walk.reached n []) (sym (first j b)));
    })
  where
    first : (j : ℕ) → j < 1 → j ≡ 0
    first j b = omega (arith, b)

    least_is : s.least ≡ get_or h.walk.reached 0 []
    least_is = h.least ∙ sym h.walk.begins

    face : IsFace facet
    face = (pure_at l.dim l.facets facet h.second.pure there).face

    used_first : (x y : ℕ) → images x ≡ Some y → has s.least x ≡ true
    used_first x y e = sym (known x) ∙ ap is_some e

    in_order : (x y : ℕ) → images x ≡ Some y → has order y ≡ true
    in_order x y e = (λ i. has (sym eo i) (sym (known_image images x y e) i)) ∙ has-map (image_in images) s.least x (used_first x y e)

pub next_of : (k l : ComplexView) (s : Search) (faces : List (List ℕ)) (step : Step) (i : ℕ) (h : IsSearch k l s) → (length faces ≡ i + 1) → i < length s.steps.items → step ≡ get_or s.steps.items i step → IsNext k h.walk.reached faces step
next_of k l s faces step i h n b e = record {
  begins = h.walk.begins;
  facets = λ f t. sym (h.walk.all f) ∙ t;
  inside = omega (arith, n, b, h.walk.leads.long);
  position = i;
  here = n;
  leads = let P : Step → Type 0 = λ t. IsStep h.walk.reached i t in subst P (sym e) (h.walk.leads.each i step b);
}

-- at the end the images of all used labels are known
pub images_of : (k l : ComplexView) (s : Search) (order : List ℕ) (images : ℕ → Option ℕ) (faces : List (List ℕ)) (i : ℕ) (h : IsSearch k l s) → length faces ≡ i + 1 → length s.steps.items ≤ i → IsSpread k l order h.walk.reached (length faces) images faces → AreImages k l order images
images_of k l s order images faces i h n b g = record {
  all = λ x t.
      let f : (f : List ℕ) × (is_facet k.facets f ≡ true) × (has f x ≡ true) = in_used k.facets x t in
      let p : (j : ℕ) × (j < length h.walk.reached) × (get_or h.walk.reached j [] ≡ f.0) = place_of h.walk.reached f.0 (h.walk.all f.0 ∙ f.1) in
      g.known p.0 x (omega (arith, p.1, n, b, h.walk.leads.long)) (ap (λ u. has u x) p.2 ∙ f.2);
  positive = g.positive;
  starts = g.starts;
  agrees = g.agrees;
}
