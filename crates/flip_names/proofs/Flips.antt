-- A flip and another naming of the labels commute.
use Rattle.std.proofs.Common.{◌≡◌, ℕ, ◌+◌, Bool, true, false, not, nat_eq, ◌||◌, ◌&&◌, List, [], ◌∷◌, ◌++◌, length, map, sym, ◌∙◌, ap, refl, inl, inr, subst}
use Rattle.std.specs.List.{list_any, list_all, AllByRecursion}
use Rattle.std.specs.List.Sorted.{IsStrictlySortedBy}
use Rattle.std.specs.Ordering.{nat_cmp}
use Rattle.std.specs.Cmp.{first_so, second_so}
use Rattle.std.specs.Cmp.Lexicographic.{pointwise, nat_list_cmp_total}
use Rattle.std.proofs.lemmas.List.{map-append}
use Rattle.std.proofs.lemmas.List.Kept.{IsStrictlySortedBy-filter}
use Rattle.complex_core.specs.Labels.{has, holds, without, face_cmp}
use Rattle.complex_core.specs.Rising.{rising}
use Rattle.complex_core.specs.Complexes.{ComplexView, IsFacet, over, beside, is_held}
use Rattle.complex_core.specs.Maps.{takes, face_image, image, takes_all, renamed}
use Rattle.complex_core.proofs.Sets.{above_tail, sorted_rising}
use Rattle.complex_core.proofs.Laws.{both_ways, each_listed, listed, listed-append, listed-filter, listed-rising, passes_listed, same_lists, same_sets_is, sorted_union}
use Rattle.complex_core.proofs.SubsetLists.{two, clash, map_back}
use Rattle.flip_rules.specs.declared.flip.Flip.{Flip}
use Rattle.flip_rules.specs.Flips.{join_boundary, has_shape, link_is, broken_rule, flipped}
use Rattle.flip_rules.proofs.Legal.{verdict}
use Rattle.flip_rules.proofs.Links.{side, side_of, listed-flipped, same_lists_is, same_lists_from}
use Rattle.flip_names.specs.Names.{takes_flip}
use Rattle.flip_names.specs.Laws.{Renames, BrokenRuleCommutes, FlipCommutes, FlipStaysTaken}
use Rattle.flip_names.proofs.Images.{Taken, taken_side, taken_set, one_set, length-image, common-image, join_boundary-image, listed-sides_image, image-rising, listed_image, listed-map_rising, listed-over_image, listed-beside_image, held-image}

-- the labels of a facet rise
pub facet_rises : (d : ℕ) (fs : List (List ℕ)) (f : List ℕ) → AllByRecursion (IsFacet d) fs → listed fs f ≡ true → IsStrictlySortedBy nat_cmp f
facet_rises d [] f h t = clash true refl (sym t)
facet_rises d (g ∷ fs) f h t = elim (two (pointwise nat_eq g f)) [
  | inl e ↦ let P : List ℕ → Type 0 = λ s. IsStrictlySortedBy nat_cmp s in subst P (same_sets_is g f e) (above_tail nat_cmp 0 g h.0.face.rising)
  | inr e ↦ facet_rises d fs f h.1 (sym (ap (λ c. c || listed fs f) e) ∙ t)
]

-- the parts of a test of a flip
pub takes_first : (m : List (ℕ × ℕ)) (f : Flip) → takes_flip m f ≡ true → Taken m f.a
takes_first m f t = first_so (list_all (takes m) f.a) (list_all (takes m) f.b) t

pub takes_second : (m : List (ℕ × ℕ)) (f : Flip) → takes_flip m f ≡ true → Taken m f.b
takes_second m f t = second_so (list_all (takes m) f.a) (list_all (takes m) f.b) t

-- ---- the rules

-- the shape is that of the sets of images
shape-image : (d : ℕ) (a b a' b' : List ℕ) → length a' ≡ length a → length b' ≡ length b → list_any (λ x. has b' x) a' ≡ list_any (λ x. has b x) a → has_shape d a' b' ≡ has_shape d a b
shape-image d a b a' b' p q r = λ i. not (nat_eq (p i) 0) && (not (nat_eq (q i) 0) && (not (r i) && nat_eq (p i + q i) (d + 2)))

module _ (m : List (ℕ × ℕ)) (k : ComplexView) (r : Renames m k) (a b : List ℕ) (ta : Taken m a) (tb : Taken m b) where
  -- a facet that contains A is a side where its image is one
  part_of : (f : List ℕ) (gs hs : List (List ℕ)) → IsStrictlySortedBy nat_cmp f → Taken m f → ((g : List ℕ) → listed hs g ≡ true → IsStrictlySortedBy nat_cmp g) → ((g : List ℕ) → listed hs g ≡ true → Taken m g) → image m gs ≡ image m hs → listed gs f ≡ true → listed hs f ≡ true
  part_of f gs hs s tf sorted taken e t =
      let q : (g : List ℕ) × (listed hs g ≡ true) × (face_image m f ≡ face_image m g) =
      map_back (face_image m) hs (face_image m f) (sym (listed-rising (map (face_image m) hs) (face_image m f)) ∙ ap (λ fs. listed fs (face_image m f)) (sym e) ∙ listed_image m gs f t) in
      ap (listed hs) (one_set m r.is_map.differ f q.0 s (sorted q.0 q.1) tf (taken q.0 q.1) q.2) ∙ q.1

  over_listed : (f : List ℕ) → listed (over k.facets a) f ≡ true → listed k.facets f ≡ true
  over_listed f t = first_so (listed k.facets f) (holds f a) (sym (listed-filter (λ g. holds g a) k.facets f) ∙ t)

  over_sorted : (f : List ℕ) → listed (over k.facets a) f ≡ true → IsStrictlySortedBy nat_cmp f
  over_sorted f t = facet_rises k.dim k.facets f r.complex.pure (over_listed f t)

  over_taken : (f : List ℕ) → listed (over k.facets a) f ≡ true → Taken m f
  over_taken f t = taken_set m r.is_map.differ k.facets r.taken f (over_listed f t)

  side_sorted : IsStrictlySortedBy nat_cmp a → (f : List ℕ) → listed (join_boundary a b) f ≡ true → IsStrictlySortedBy nat_cmp f
  side_sorted s f t =
      let p : (x : ℕ) × (has b x ≡ true) × (f ≡ side a b x) = side_of a b f t in
      let P : List ℕ → Type 0 = λ g. IsStrictlySortedBy nat_cmp g in
      subst P (sym p.2) (sorted_union a (without b p.0) s)

  sides_taken : (f : List ℕ) → listed (join_boundary a b) f ≡ true → Taken m f
  sides_taken f t =
      let p : (x : ℕ) × (has b x ≡ true) × (f ≡ side a b x) = side_of a b f t in
      let P : List ℕ → Type 0 = λ g. Taken m g in
      subst P (sym p.2) (taken_side m a b p.0 ta tb)

  over-image : over (image m k.facets) (face_image m a) ≡ image m (over k.facets a)
  over-image = same_lists (over (image m k.facets) (face_image m a)) (image m (over k.facets a))
      (IsStrictlySortedBy-filter face_cmp (λ f. holds f (face_image m a)) (image m k.facets) (sorted_rising nat_list_cmp_total (map (face_image m) k.facets)))
      (sorted_rising nat_list_cmp_total (map (face_image m) (over k.facets a)))
      (λ g. listed-over_image m r.is_map.differ k.facets r.taken a g ta ∙ sym (listed-rising (map (face_image m) (over k.facets a)) g))

  -- the link of A is the boundary of B exactly where the same holds of the images
  link-image : IsStrictlySortedBy nat_cmp a → link_is (image m k.facets) (face_image m a) (face_image m b) ≡ link_is k.facets a b
  link-image s = both_ways (link_is (image m k.facets) (face_image m a) (face_image m b)) (link_is k.facets a b)
      (λ t.
      let e : image m (over k.facets a) ≡ image m (join_boundary a b) =
      sym over-image ∙ same_lists_is (over (image m k.facets) (face_image m a)) (rising face_cmp (join_boundary (face_image m a) (face_image m b))) t ∙ join_boundary-image m r.is_map.differ a b tb in
      same_lists_from (over k.facets a) (rising face_cmp (join_boundary a b)) (
      same_lists (over k.facets a) (rising face_cmp (join_boundary a b))
      (IsStrictlySortedBy-filter face_cmp (λ f. holds f a) k.facets r.complex.rising)
      (sorted_rising nat_list_cmp_total (join_boundary a b))
      (λ f. both_ways (listed (over k.facets a) f) (listed (join_boundary a b) f)
      (λ u. part_of f (over k.facets a) (join_boundary a b) (over_sorted f u) (over_taken f u) (side_sorted s) sides_taken e u)
      (λ u. part_of f (join_boundary a b) (over k.facets a) (side_sorted s f u) (sides_taken f u) over_sorted over_taken (sym e) u)
      ∙ sym (listed-rising (join_boundary a b) f))
      ))
      (λ t.
      let e : over k.facets a ≡ rising face_cmp (join_boundary a b) = same_lists_is (over k.facets a) (rising face_cmp (join_boundary a b)) t in
      same_lists_from (over (image m k.facets) (face_image m a)) (rising face_cmp (join_boundary (face_image m a) (face_image m b)))
      (over-image ∙ ap (image m) e ∙ image-rising m (join_boundary a b) ∙ sym (join_boundary-image m r.is_map.differ a b tb)))

  broken_rule-image : IsStrictlySortedBy nat_cmp a → IsStrictlySortedBy nat_cmp b → broken_rule (renamed k m) (face_image m a) (face_image m b) ≡ broken_rule k a b
  broken_rule-image sa sb =
      let d = r.is_map.differ in
      let s : has_shape k.dim (face_image m a) (face_image m b) ≡ has_shape k.dim a b = shape-image k.dim a b (face_image m a) (face_image m b) (length-image m d a sa ta) (length-image m d b sb tb) (common-image m d a b ta tb) in
      let h : is_held (image m k.facets) (face_image m a) ≡ is_held k.facets a = held-image m d k.facets r.taken a ta in
      let l : link_is (image m k.facets) (face_image m a) (face_image m b) ≡ link_is k.facets a b = link-image sa in
      let f : is_held (image m k.facets) (face_image m b) ≡ is_held k.facets b = held-image m d k.facets r.taken b tb in
      λ i. verdict (s i) (h i) (l i) (f i)

  -- ---- what the flip makes

  listed-flip_image : (g : List ℕ) → listed (image m (flipped k a b).facets) g ≡ listed (flipped (renamed k m) (face_image m a) (face_image m b)).facets g
  listed-flip_image g =
      listed-rising (map (face_image m) (flipped k a b).facets) g
      ∙ listed-map_rising m (beside k.facets a ++ join_boundary b a) g
      ∙ ap (λ fs. listed fs g) (map-append (face_image m) (beside k.facets a) (join_boundary b a))
      ∙ listed-append (map (face_image m) (beside k.facets a)) (map (face_image m) (join_boundary b a)) g
      ∙ (λ i. sym (listed-beside_image m r.is_map.differ k.facets r.taken a g ta) i || sym (listed-sides_image m r.is_map.differ b a g ta) i)
      ∙ sym (listed-append (beside (image m k.facets) (face_image m a)) (join_boundary (face_image m b) (face_image m a)) g)
      ∙ sym (listed-rising (beside (image m k.facets) (face_image m a) ++ join_boundary (face_image m b) (face_image m a)) g)

  flip-image : renamed (flipped k a b) m ≡ flipped (renamed k m) (face_image m a) (face_image m b)
  flip-image =
      let e : image m (flipped k a b).facets ≡ (flipped (renamed k m) (face_image m a) (face_image m b)).facets =
      same_lists (image m (flipped k a b).facets) (flipped (renamed k m) (face_image m a) (face_image m b)).facets
      (sorted_rising nat_list_cmp_total (map (face_image m) (flipped k a b).facets))
      (sorted_rising nat_list_cmp_total (beside (image m k.facets) (face_image m a) ++ join_boundary (face_image m b) (face_image m a)))
      listed-flip_image in
      λ i. record { dim = k.dim; facets = e i }

pub broken_rule_commutes : BrokenRuleCommutes
broken_rule_commutes m k f r faces t = broken_rule-image m k r f.a f.b (takes_first m f t) (takes_second m f t) (above_tail nat_cmp 0 f.a faces.first.rising) (above_tail nat_cmp 0 f.b faces.second.rising)

pub flip_commutes : FlipCommutes
flip_commutes m k f r t = flip-image m k r f.a f.b (takes_first m f t) (takes_second m f t)

pub flip_stays_taken : FlipStaysTaken
flip_stays_taken m k f all t = each_listed (λ g. list_all (takes m) g) (flipped k f.a f.b).facets (λ g u. which g (sym (listed-flipped k f.a f.b g) ∙ u))
  where
    which : (g : List ℕ) → ((listed k.facets g && not (holds g f.a)) || listed (join_boundary f.b f.a) g) ≡ true → Taken m g
    which g u = elim (two (listed (join_boundary f.b f.a) g)) [
      | inl e ↦
          let p : (x : ℕ) × (has f.a x ≡ true) × (g ≡ side f.b f.a x) = side_of f.b f.a g e in
          let P : List ℕ → Type 0 = λ h. Taken m h in
          subst P (sym p.2) (taken_side m f.b f.a p.0 (takes_second m f t) (takes_first m f t))
      | inr e ↦ passes k.facets g all (first_so (listed k.facets g) (not (holds g f.a)) (front (listed k.facets g && not (holds g f.a)) (listed (join_boundary f.b f.a) g) u e))
    ]
      where
        front : (c e : Bool) → (c || e) ≡ true → e ≡ false → c ≡ true
        front true e h g = refl
        front false e h g = clash e h g

        passes : (fs : List (List ℕ)) (g : List ℕ) → takes_all m fs ≡ true → listed fs g ≡ true → Taken m g
        passes fs g h v = passes_listed (λ s. list_all (takes m) s) fs g h v
