-- The map of the images of all labels.
use Rattle.std.proofs.Common.{zero, suc, ◌≡◌, ℕ, ◌<◌, Bool, true, false, cond, nat_eq, ◌||◌, List, [], ◌∷◌, length, map, take, get_or, sym, ◌∙◌, ap, refl, subst, arith, inl, inr, Option, Some, None, is_some, Result, Ok, Err, IfOk, IfSome, IfNone, MatchOption, BTreeMap}
use Rattle.std.specs.Cmp.Lexicographic.{pointwise}
use Rattle.complex_core.proofs.Booleans.{left_off, right_off}
use Rattle.std.specs.List.{list_any, flat_map, AllByRecursion}
use Rattle.std.specs.List.Sorted.{IsStrictlySortedBy}
use Rattle.std.specs.Ordering.{nat_cmp, ordering_then}
use Rattle.std.specs.BTreeMap.{get}
use Rattle.std.specs.Cmp.{first_so, second_so}
use Rattle.std.specs.Cmp.Derive.{both_true}
use Rattle.std.proofs.lemmas.Cmp.{nat_cmp_total}
use Rattle.complex_core.specs.Labels.{has, face_cmp}
use Rattle.complex_core.specs.Rising.{rising}
use Rattle.complex_core.specs.Complexes.{ComplexView, IsComplex, is_facet}
use Rattle.complex_core.specs.Maps.{ArePositive, IsMap, Differ, at, face_images, pair_cmp, reaches, renamed, takes, takes_all, used}
use Rattle.complex_core.specs.MapFaults.{IsFirstTwice}
use Rattle.complex_core.proofs.Sets.{Above, above_cons, above_head, above_tail, not_among, sorted_none, sorted_rising}
use Rattle.complex_core.proofs.Searching.{rising_own}
use Rattle.complex_core.proofs.Faces.{among-has}
use Rattle.complex_core.proofs.Pairs.{pair_exact, pair_total}
use Rattle.complex_core.proofs.Renaming.{each_label}
use Rattle.complex_core.proofs.Laws.{nat_eq_is, nat_eq_same, nat_eq_swap, or_left, or_right, same_set_itself, same_sets_is}
use Rattle.complex_core.proofs.Members.{each_member, has-rising, label_low}
use Rattle.complex_core.proofs.SetLists.{pure_at, used_label}
use Rattle.complex_core.proofs.SubsetLists.{two, clash}
use Rattle.facet_iso.specs.Isomorphisms.{Takes, least_facet, ordered_image}
use Rattle.facet_iso.specs.Trials.{AreImages, image_in, NoneOrdered, IsOrdered}
use Rattle.facet_iso.proofs.Images.{one_label}
use Rattle.facet_iso.proofs.Trying.{in_used, known_value, least_there, map_alike}

-- ---- pairs of labels with their images

abbrev pub pairs : (ℕ → ℕ) → List ℕ → List (ℕ × ℕ)
pairs h xs = map (λ x. (x, h x)) xs

takes_pairs : (h : ℕ → ℕ) (xs : List ℕ) (x : ℕ) → takes (pairs h xs) x ≡ has xs x
takes_pairs h [] x = refl
takes_pairs h (y ∷ ys) x = ap (λ b. nat_eq y x || b) (takes_pairs h ys x)

at_pairs : (h : ℕ → ℕ) (xs : List ℕ) (x : ℕ) → has xs x ≡ true → at (pairs h xs) x ≡ h x
at_pairs h [] x t = clash true refl (sym t)
at_pairs h (y ∷ ys) x t = elim (two (nat_eq y x)) [
  | inl e ↦ ap (λ b. cond b (h y) (at (pairs h ys) x)) e ∙ ap h (nat_eq_is y x e)
  | inr e ↦ ap (λ b. cond b (h y) (at (pairs h ys) x)) e ∙ at_pairs h ys x (sym (ap (λ b. b || has ys x) e) ∙ t)
]

above_pairs : (h : ℕ → ℕ) (x : ℕ) (xs : List ℕ) → Above nat_cmp x xs → Above pair_cmp (x, h x) (pairs h xs)
above_pairs h x [] a = tt
above_pairs h x (y ∷ ys) a = (ap (λ r. ordering_then r (nat_cmp (h x) (h y))) a.0, above_pairs h x ys a.1)

rising_pairs : (h : ℕ → ℕ) (xs : List ℕ) → IsStrictlySortedBy nat_cmp xs → IsStrictlySortedBy pair_cmp (pairs h xs)
rising_pairs h [] s = sorted_none pair_cmp
rising_pairs h (x ∷ xs) s = above_cons pair_cmp (x, h x) (pairs h xs) (above_pairs h x xs (above_head nat_cmp x xs s)) (rising_pairs h xs (above_tail nat_cmp x xs s))

firsts : (h : ℕ → ℕ) (xs : List ℕ) → map (λ p. p.0) (pairs h xs) ≡ xs
firsts h [] = refl
firsts h (x ∷ xs) = ap (λ ys. x ∷ ys) (firsts h xs)

positive_pairs : (h : ℕ → ℕ) (xs : List ℕ) → ((x : ℕ) → has xs x ≡ true → (0 < x) × (0 < h x)) → ArePositive (pairs h xs)
positive_pairs h [] f = tt
positive_pairs h (x ∷ xs) f = (f x (or_left (nat_eq x x) (has xs x) (nat_eq_same x)), positive_pairs h xs (λ y t. f y (or_right (nat_eq x y) (has xs y) t)))

differ_pairs : (h : ℕ → ℕ) (xs : List ℕ) → IsStrictlySortedBy nat_cmp xs → ((x y : ℕ) → has xs x ≡ true → has xs y ≡ true → h x ≡ h y → x ≡ y) → Differ (pairs h xs)
differ_pairs h [] s one = tt
differ_pairs h (x ∷ xs) s one = (
  takes_pairs h xs x ∙ fresh,
  not_reached xs (λ y t e. clash {P = ⊥} (has xs x) (ap (has xs) (one x y (or_left (nat_eq x x) (has xs x) (nat_eq_same x)) (or_right (nat_eq x y) (has xs y) t) (sym e)) ∙ t) fresh),
  differ_pairs h xs (above_tail nat_cmp x xs s) (λ y z t u. one y z (or_right (nat_eq x y) (has xs y) t) (or_right (nat_eq x z) (has xs z) u)),
)
  where
    fresh : has xs x ≡ false
    fresh = sym (among-has x xs) ∙ not_among nat_cmp_total x xs (above_head nat_cmp x xs s)

    not_reached : (ys : List ℕ) → ((y : ℕ) → has ys y ≡ true → h y ≡ h x → ⊥) → reaches (pairs h ys) (h x) ≡ false
    not_reached [] f = refl
    not_reached (y ∷ ys) f = elim (two (nat_eq (h y) (h x))) [
      | inl e ↦ absurd (f y (or_left (nat_eq y y) (has ys y) (nat_eq_same y)) (nat_eq_is (h y) (h x) e))
      | inr e ↦ ap (λ b. b || reaches (pairs h ys) (h x)) e ∙ not_reached ys (λ z t. f z (or_right (nat_eq y z) (has ys z) t))
    ]

-- pairs that differ have no first one that repeats an earlier one
not_twice : (ps : List (ℕ × ℕ)) (i : ℕ) → Differ ps → IsFirstTwice ps i → ⊥
not_twice ps i d f = go ps i d f.inside f.there
  where
    missing : (side : ℕ × ℕ → ℕ) (q : ℕ × ℕ) (qs : List (ℕ × ℕ)) (j : ℕ) → j < length qs → list_any (λ p. nat_eq (side p) (side q)) qs ≡ false → nat_eq (side q) (side (get_or qs j (0, 0))) ≡ false
    missing side q [] j l e = absurd (omega (arith, l))
    missing side q (p ∷ ps) zero l e = nat_eq_swap (side q) (side p) ∙ left_off (nat_eq (side p) (side q)) (list_any (λ p. nat_eq (side p) (side q)) ps) e
    missing side q (p ∷ ps) (suc j) l e = missing side q ps j (omega (arith, l)) (right_off (nat_eq (side p) (side q)) (list_any (λ p. nat_eq (side p) (side q)) ps) e)

    go : (qs : List (ℕ × ℕ)) (j : ℕ) → Differ qs → j < length qs → (takes (take j qs) (get_or qs j (0, 0)).0 || reaches (take j qs) (get_or qs j (0, 0)).1) ≡ true → ⊥
    go [] j e l t = absurd (omega (arith, l))
    go (q ∷ qs) zero e l t = clash {P = ⊥} true refl (sym t)
    go (q ∷ qs) (suc j) e l t =
        let inside : j < length qs = omega (arith, l) in
        go qs j e.2 inside (sym (λ i. (missing (λ p. p.0) q qs j inside e.0 i || takes (take j qs) (get_or qs j (0, 0)).0) || (missing (λ p. p.1) q qs j inside e.1 i || reaches (take j qs) (get_or qs j (0, 0)).1)) ∙ t)

-- ---- the map that the images make

module _ (k l : ComplexView) (c : IsComplex k) (order : List ℕ) (images : ℕ → Option ℕ) (a : AreImages k l order images) where
  used_rise : IsStrictlySortedBy nat_cmp (used k.facets)
  used_rise = sorted_rising nat_cmp_total (flat_map (λ f. f) k.facets)

  pub all_known : (labels shown : List ℕ) → labels ≡ used k.facets → shown ≡ labels → AllByRecursion (λ x. is_some (images x) ≡ true) shown
  all_known labels shown e s = let P : List ℕ → Type 0 = λ xs. AllByRecursion (λ x. is_some (images x) ≡ true) xs in subst P (sym (s ∙ e)) (each_member (λ x. is_some (images x) ≡ true) (used k.facets) a.all)

  pub pairs_positive : (labels shown : List ℕ) (ps made : List (ℕ × ℕ)) → labels ≡ used k.facets → shown ≡ labels → ps ≡ pairs (image_in images) shown → made ≡ ps → ArePositive made
  pairs_positive labels shown ps made e s p m =
      let P : List (ℕ × ℕ) → Type 0 = λ qs. ArePositive qs in
      subst P (sym (m ∙ p ∙ ap (pairs (image_in images)) (s ∙ e))) (positive_pairs (image_in images) (used k.facets) (λ x t.
      let f : (f : List ℕ) × (is_facet k.facets f ≡ true) × (has f x ≡ true) = in_used k.facets x t in
      (label_low f.0 x (pure_at k.dim k.facets f.0 c.pure f.1).face f.2, a.positive x (image_in images x) (known_value images x (a.all x t)))))

  same_image : (m : List (ℕ × ℕ)) → Takes k l m → ordered_image k m ≡ order → (x : ℕ) → has (used k.facets) x ≡ true → at m x ≡ image_in images x
  same_image m t o x u = a.agrees m t o x (image_in images x) (known_value images x (a.all x u))

  pub none_twice : (labels shown : List ℕ) (ps made : List (ℕ × ℕ)) (i : ℕ) → labels ≡ used k.facets → shown ≡ labels → ps ≡ pairs (image_in images) shown → made ≡ ps → IsFirstTwice made i → NoneOrdered k l order
  none_twice labels shown ps made i e s p em twice m t o =
      let P : List (ℕ × ℕ) → Type 0 = λ qs. IsFirstTwice qs i in
      not_twice (pairs (image_in images) (used k.facets)) i (differ_pairs (image_in images) (used k.facets) used_rise (λ x y u v q.
      let f : (f : List ℕ) × (is_facet k.facets f ≡ true) × (has f x ≡ true) = in_used k.facets x u in
      let g : (g : List ℕ) × (is_facet k.facets g ≡ true) × (has g y ≡ true) = in_used k.facets y v in
      one_label k l m t f.0 g.0 x y f.1 g.1 f.2 g.2 (same_image m t o x u ∙ q ∙ sym (same_image m t o y v))))
      (subst P (em ∙ p ∙ ap (pairs (image_in images)) (s ∙ e)) twice)

  module _ (labels shown : List ℕ) (ps made n : List (ℕ × ℕ)) (e : labels ≡ used k.facets) (s : shown ≡ labels) (p : ps ≡ pairs (image_in images) shown) (em : made ≡ ps) (en : n ≡ rising pair_cmp made) where
    made_is : n ≡ pairs (image_in images) (used k.facets)
    made_is = en ∙ ap (rising pair_cmp) (em ∙ p ∙ ap (pairs (image_in images)) (s ∙ e)) ∙ rising_own pair_total pair_exact (pairs (image_in images) (used k.facets)) (rising_pairs (image_in images) (used k.facets) used_rise)

    made_at : (x : ℕ) → has (used k.facets) x ≡ true → at n x ≡ image_in images x
    made_at x t = ap (λ q. at q x) made_is ∙ at_pairs (image_in images) (used k.facets) x t

    takes_them : takes_all n k.facets ≡ true
    takes_them = each_label (takes n) k.facets (λ x t. ap (λ q. takes q x) made_is ∙ takes_pairs (image_in images) (used k.facets) x ∙ has-rising (flat_map (λ f. f) k.facets) x ∙ t)

    alike : (h g : List (ℕ × ℕ)) → ((x : ℕ) → has (used k.facets) x ≡ true → at h x ≡ at g x) → face_images h k.facets ≡ face_images g k.facets
    alike h g same = within k.facets (λ f x t u. same x (used_label k.facets f x t u))
      where
        within : (fs : List (List ℕ)) → ((f : List ℕ) (x : ℕ) → is_facet fs f ≡ true → has f x ≡ true → at h x ≡ at g x) → face_images h fs ≡ face_images g fs
        within [] w = refl
        within (f ∷ fs) w = λ i. rising nat_cmp (map_alike (at h) (at g) f (λ x. w f x (or_left (pointwise nat_eq f f) (is_facet fs f) (same_set_itself f))) i) ∷ within fs (λ f' x t. w f' x (or_right (pointwise nat_eq f f') (is_facet fs f') t)) i

    pub none_made : (takes_all n k.facets ≡ true → renamed k n ≡ l → ⊥) → NoneOrdered k l order
    none_made f m t o = f takes_them (ap (λ fs. record { dim = k.dim; facets = rising face_cmp fs }) (alike n m (λ x u. made_at x u ∙ sym (same_image m t o x u))) ∙ t.image)

    pub one_made : IsMap n → renamed k n ≡ l → IsOrdered k l order n
    one_made is_map i = record {
      takes = record { is_map = is_map; all = takes_them; image = i };
      labels = ap (map (λ q. q.0)) made_is ∙ firsts (image_in images) (used k.facets);
      ordered = map_alike (at n) (image_in images) (least_facet k) (λ x t. made_at x (used_label k.facets (least_facet k) x (least_there k c) t)) ∙ a.starts;
    }

    pub answer_made : {E : Type 0} (r : Result (Option (List (ℕ × ℕ))) E) → IsMap n → IfOk r (λ o. IfNone o (takes_all n k.facets ≡ true → renamed k n ≡ l → ⊥)) → IfOk r (λ o. IfSome o (λ m. (m ≡ n) × (takes_all n k.facets ≡ true) × (renamed k n ≡ l))) → IfOk r (λ o. MatchOption o (NoneOrdered k l order) (IsOrdered k l order))
    answer_made (Ok None) is_map none some = none_made none
    answer_made (Ok (Some m)) is_map none some = let P : List (ℕ × ℕ) → Type 0 = λ q. IsOrdered k l order q in subst P (sym some.0) (one_made is_map some.2)
    answer_made (Err e) is_map none some = tt

-- ---- what was found

abbrev Found : ComplexView → ComplexView → List ℕ → Option (BTreeMap ℕ ℕ) → Type 0
Found k l order r = MatchOption r (NoneOrdered k l order) (λ t. AreImages k l order (get nat_cmp t))

pub when_none : (k l : ComplexView) (order : List ℕ) (r : Option (BTreeMap ℕ ℕ)) → Found k l order r → r ≡ None → NoneOrdered k l order
when_none k l order r h e = let P : Option (BTreeMap ℕ ℕ) → Type 0 = λ o. Found k l order o in subst P e h

pub when_some : (k l : ComplexView) (order : List ℕ) (r : Option (BTreeMap ℕ ℕ)) (t : BTreeMap ℕ ℕ) → Found k l order r → r ≡ Some t → AreImages k l order (get nat_cmp t)
when_some k l order r t h e = let P : Option (BTreeMap ℕ ℕ) → Type 0 = λ o. Found k l order o in subst P e h

-- each label of a list has an image
pub not_missing : (images : ℕ → Option ℕ) (labels : List ℕ) (i d : ℕ) → AllByRecursion (λ x. is_some (images x) ≡ true) labels → i < length labels → None ≡ images (get_or labels i d) → ⊥
not_missing images [] i d a l e = absurd (omega (arith, l))
not_missing images (x ∷ xs) zero d a l e = clash {P = ⊥} (is_some (images x)) a.0 (ap is_some (sym e))
not_missing images (x ∷ xs) (suc i) d a l e = not_missing images xs i d a.1 (omega (arith, l)) e

-- ---- complexes that are compared

same_facets : (fs gs : List (List ℕ)) → pointwise (pointwise nat_eq) fs gs ≡ true → fs ≡ gs
same_facets [] [] t = refl
same_facets [] (g ∷ gs) t = clash true refl (sym t)
same_facets (f ∷ fs) [] t = clash true refl (sym t)
same_facets (f ∷ fs) (g ∷ gs) t = λ i. same_sets_is f g (first_so (pointwise nat_eq f g) (pointwise (pointwise nat_eq) fs gs) t) i ∷ same_facets fs gs (second_so (pointwise nat_eq f g) (pointwise (pointwise nat_eq) fs gs) t) i

facets_itself : (fs : List (List ℕ)) → pointwise (pointwise nat_eq) fs fs ≡ true
facets_itself [] = refl
facets_itself (f ∷ fs) = both_true (same_set_itself f) (facets_itself fs)

pub same_views : (k l : ComplexView) (fs gs : List (List ℕ)) (b : Bool) → k.dim ≡ l.dim → fs ≡ k.facets → gs ≡ l.facets → b ≡ pointwise (pointwise nat_eq) fs gs → (b ≡ true → k ≡ l) × (k ≡ l → b ≡ true)
same_views k l fs gs b d ef eg eb = (
  λ t. let e : k.facets ≡ l.facets = sym ef ∙ same_facets fs gs (sym eb ∙ t) ∙ eg in λ i. record { dim = d i; facets = e i },
  λ e. eb ∙ ap (λ hs. pointwise (pointwise nat_eq) hs gs) (ef ∙ ap (λ c. c.facets) e ∙ sym eg) ∙ facets_itself gs,
)
