-- In a closed complex the links of vertices are closed: a ridge of a link with the vertex is a ridge of the complex, in as many facets.
use Rattle.std.proofs.Common.{◌≡◌, ◌≢◌, ℕ, ◌≤◌, Bool, true, false, not, nat_eq, ◌||◌, ◌&&◌, List, [], ◌∷◌, length, map, sym, ◌∙◌, ap, refl, arith}
use Rattle.std.specs.List.{flat_map}
use Rattle.std.specs.List.Sorted.{IsStrictlySortedBy}
use Rattle.std.specs.Ordering.{nat_cmp}
use Rattle.std.specs.Cmp.{first_so, second_so}
use Rattle.std.specs.Cmp.Derive.{both_true}
use Rattle.std.specs.Cmp.Lexicographic.{pointwise, nat_list_cmp_total}
use Rattle.std.proofs.lemmas.Bool.{false_from_ne_true}
use Rattle.std.proofs.lemmas.List.Folds.{list_any-append}
use Rattle.std.proofs.lemmas.List.Kept.{IsStrictlySortedBy-filter}
use Rattle.complex_core.specs.Labels.{has, holds, with, without, face_cmp}
use Rattle.complex_core.specs.Rising.{rising}
use Rattle.complex_core.specs.Complexes.{ComplexView, IsComplex, over, is_held}
use Rattle.complex_core.specs.Links.{less}
use Rattle.complex_core.specs.Maps.{used}
use Rattle.complex_core.proofs.Sets.{above_head, above_tail, above_cons, sorted_none, sorted_rising, not_among, among_head, length-put_new}
use Rattle.complex_core.proofs.Laws.{both_ways, either, has-with, has-without, holds_has, holds_each, listed, listed-among, listed-filter, listed-rising, same_lists, sorted_without, nat_eq_is, nat_eq_same, or_left, or_right}
use Rattle.complex_core.proofs.Members.{has-rising, with_back, without_has, without_gone, without_other, in_without}
use Rattle.complex_core.proofs.SubsetLists.{clash, map_from, map_back, part_is_face}
use Rattle.complex_core.proofs.SetLists.{found_set, pure_at}
use Rattle.pseudo_test.specs.Ridges.{IsRidge, Closed, count}
use Rattle.pseudo_test.proofs.Subsets.{holds_less, without_swap}
use Rattle.link_check.specs.BadLinks.{HasLink}
use Rattle.link_check.specs.Vertices.{vertex_link, VertexLinksClosed, GoodLinksLaw}

-- ---- a used label is a face with a link

and_true : (b : Bool) → b ≡ (b && true)
and_true true = refl
and_true false = refl

pub has_used : (fs : List (List ℕ)) (v : ℕ) → has (used fs) v ≡ is_held fs (v ∷ [])
has_used fs v = has-rising (flat_map (λ f. f) fs) v ∙ flat fs
  where
    flat : (fs : List (List ℕ)) → has (flat_map (λ f. f) fs) v ≡ is_held fs (v ∷ [])
    flat [] = refl
    flat (f ∷ fs) = list_any-append (λ y. nat_eq y v) f (flat_map (λ g. g) fs) ∙ (λ i. and_true (has f v) i || flat fs i)

pub vertex_has : (k : ComplexView) (v : ℕ) → IsComplex k → 1 ≤ k.dim → has (used k.facets) v ≡ true → HasLink k (v ∷ [])
vertex_has k v c proper u =
    let t : is_held k.facets (v ∷ []) ≡ true = sym (has_used k.facets v) ∙ u in
    let f : (f : List ℕ) × (listed k.facets f ≡ true) × (holds f (v ∷ []) ≡ true) = found_set (λ f. holds f (v ∷ [])) k.facets t in
    record {
      labels = part_is_face f.0 (v ∷ []) (pure_at k.dim k.facets f.0 c.pure f.1).face (above_cons nat_cmp v [] tt (sorted_none nat_cmp)) f.2;
      face = t;
      proper = omega (arith, proper);
    }

-- ---- what an injective map leaves of a rising list

length_images : (h : List ℕ → List ℕ) (xs : List (List ℕ)) → IsStrictlySortedBy face_cmp xs → ((y z : List ℕ) → listed xs y ≡ true → listed xs z ≡ true → h y ≡ h z → y ≡ z) → length (rising face_cmp (map h xs)) ≡ length xs
length_images h [] s one = refl
length_images h (x ∷ xs) s one =
    let here : listed (x ∷ xs) x ≡ true = sym (listed-among (x ∷ xs) x) ∙ among_head nat_list_cmp_total x xs in
    let gone : listed xs x ≡ false = sym (listed-among xs x) ∙ not_among nat_list_cmp_total x xs (above_head face_cmp x xs s) in
    let new : listed (map h xs) (h x) ≡ false = false_from_ne_true (listed (map h xs) (h x)) (λ t.
    let p : (y : List ℕ) × (listed xs y ≡ true) × (h x ≡ h y) = map_back h xs (h x) t in
    clash {P = ⊥} (listed xs x) (ap (listed xs) (one x p.0 here (later p.0 p.1) p.2) ∙ p.1) gone) in
    omega (
      arith,
      length-put_new face_cmp (h x) (rising face_cmp (map h xs)) (listed-among (rising face_cmp (map h xs)) (h x) ∙ listed-rising (map h xs) (h x) ∙ new),
      length_images h xs (above_tail face_cmp x xs s) (λ y z p q. one y z (later y p) (later z q)),
    )
  where
    later : (y : List ℕ) → listed xs y ≡ true → listed (x ∷ xs) y ≡ true
    later y t = or_right (pointwise nat_eq x y) (listed xs y) t

-- ---- ridges of the link of a vertex

module _ (k : ComplexView) (c : IsComplex k) (v : ℕ) where
  set : (f : List ℕ) → listed k.facets f ≡ true → IsStrictlySortedBy nat_cmp f
  set f t = above_tail nat_cmp 0 f (pure_at k.dim k.facets f c.pure t).face.rising

  -- a facet of the link, and the facet of the complex that it comes from
  pub from_facet : (g : List ℕ) → listed (vertex_link k v).facets g ≡ true → (f : List ℕ) × (listed k.facets f ≡ true) × (has f v ≡ true) × (g ≡ without f v)
  from_facet g t =
      let p : (f : List ℕ) × (listed (over k.facets (v ∷ [])) f ≡ true) × (g ≡ without f v) = map_back (λ f. less f (v ∷ [])) (over k.facets (v ∷ [])) g (sym (listed-rising (map (λ f. less f (v ∷ [])) (over k.facets (v ∷ []))) g) ∙ t) in
      let u : (listed k.facets p.0 && holds p.0 (v ∷ [])) ≡ true = sym (listed-filter (λ f. holds f (v ∷ [])) k.facets p.0) ∙ p.1 in
      (p.0, first_so (listed k.facets p.0) (holds p.0 (v ∷ [])) u, first_so (has p.0 v) true (second_so (listed k.facets p.0) (holds p.0 (v ∷ [])) u), p.2)

  to_facet : (f : List ℕ) → listed k.facets f ≡ true → has f v ≡ true → listed (vertex_link k v).facets (without f v) ≡ true
  to_facet f t u =
      listed-rising (map (λ f. less f (v ∷ [])) (over k.facets (v ∷ []))) (without f v)
      ∙ map_from (λ f. less f (v ∷ [])) (over k.facets (v ∷ [])) f (listed-filter (λ f. holds f (v ∷ [])) k.facets f ∙ both_true t (both_true u refl))

  holds_with : (f r : List ℕ) → has f v ≡ true → holds f r ≡ true → holds f (with r v) ≡ true
  holds_with f r u h = holds_each f (with r v) (λ z t. either (nat_eq v z) (has r z) (has f z) (sym (has-with r v z) ∙ t) (λ e. ap (has f) (sym (nat_eq_is v z e)) ∙ u) (λ e. holds_has f r z h e))

  holds_rest : (f r : List ℕ) → holds f (with r v) ≡ true → holds f r ≡ true
  holds_rest f r h = holds_each f r (λ z t. holds_has f (with r v) z h (has-with r v z ∙ or_right (nat_eq v z) (has r z) t))

  holds_vertex : (f r : List ℕ) → holds f (with r v) ≡ true → has f v ≡ true
  holds_vertex f r h = holds_has f (with r v) v h (has-with r v v ∙ or_left (nat_eq v v) (has r v) (nat_eq_same v))

  -- the facets of the link over a set come from those of the complex over the set with the vertex
  over_link : (r : List ℕ) → has r v ≡ false → over (vertex_link k v).facets r ≡ rising face_cmp (map (λ f. without f v) (over k.facets (with r v)))
  over_link r out =
      same_lists (over (vertex_link k v).facets r) (rising face_cmp (map (λ f. without f v) (over k.facets (with r v))))
      (IsStrictlySortedBy-filter face_cmp (λ f. holds f r) (vertex_link k v).facets (sorted_rising nat_list_cmp_total (map (λ f. less f (v ∷ [])) (over k.facets (v ∷ [])))))
      (sorted_rising nat_list_cmp_total (map (λ f. without f v) (over k.facets (with r v))))
      (λ g.
      listed-filter (λ f. holds f r) (vertex_link k v).facets g
      ∙ both_ways (listed (vertex_link k v).facets g && holds g r) (listed (map (λ f. without f v) (over k.facets (with r v))) g) (there g) (back g)
      ∙ sym (listed-rising (map (λ f. without f v) (over k.facets (with r v))) g))
    where
      there : (g : List ℕ) → (listed (vertex_link k v).facets g && holds g r) ≡ true → listed (map (λ f. without f v) (over k.facets (with r v))) g ≡ true
      there g t =
          let p : (f : List ℕ) × (listed k.facets f ≡ true) × (has f v ≡ true) × (g ≡ without f v) = from_facet g (first_so (listed (vertex_link k v).facets g) (holds g r) t) in
          let h : holds (without p.0 v) r ≡ true = ap (λ s. holds s r) (sym p.3) ∙ second_so (listed (vertex_link k v).facets g) (holds g r) t in
          let part : holds p.0 r ≡ true = holds_each p.0 r (λ z u. without_has p.0 v z (holds_has (without p.0 v) r z h u)) in
          ap (listed (map (λ f. without f v) (over k.facets (with r v)))) p.3
          ∙ map_from (λ f. without f v) (over k.facets (with r v)) p.0 (listed-filter (λ f. holds f (with r v)) k.facets p.0 ∙ both_true p.1 (holds_with p.0 r p.2 part))

      back : (g : List ℕ) → listed (map (λ f. without f v) (over k.facets (with r v))) g ≡ true → (listed (vertex_link k v).facets g && holds g r) ≡ true
      back g t =
          let p : (f : List ℕ) × (listed (over k.facets (with r v)) f ≡ true) × (g ≡ without f v) = map_back (λ f. without f v) (over k.facets (with r v)) g t in
          let u : (listed k.facets p.0 && holds p.0 (with r v)) ≡ true = sym (listed-filter (λ f. holds f (with r v)) k.facets p.0) ∙ p.1 in
          let h : holds p.0 (with r v) ≡ true = second_so (listed k.facets p.0) (holds p.0 (with r v)) u in
          both_true
          (ap (listed (vertex_link k v).facets) p.2 ∙ to_facet p.0 (first_so (listed k.facets p.0) (holds p.0 (with r v)) u) (holds_vertex p.0 r h))
          (ap (λ s. holds s r) p.2 ∙ holds_less p.0 r v (holds_rest p.0 r h) out)

  count_link : (r : List ℕ) → has r v ≡ false → count (vertex_link k v).facets r ≡ count k.facets (with r v)
  count_link r out =
      ap length (over_link r out)
      ∙ length_images (λ f. without f v) (over k.facets (with r v)) (IsStrictlySortedBy-filter face_cmp (λ f. holds f (with r v)) k.facets c.rising) (λ y z p q e.
      sym (restored y p) ∙ ap (λ s. with s v) e ∙ restored z q)
    where
      restored : (f : List ℕ) → listed (over k.facets (with r v)) f ≡ true → with (without f v) v ≡ f
      restored f t =
          let u : (listed k.facets f && holds f (with r v)) ≡ true = sym (listed-filter (λ f. holds f (with r v)) k.facets f) ∙ t in
          with_back f v (set f (first_so (listed k.facets f) (holds f (with r v)) u)) (holds_vertex f r (second_so (listed k.facets f) (holds f (with r v)) u))

  -- a ridge of the link lacks the vertex, and is a ridge with it
  ridge_of : (r : List ℕ) → IsRidge (vertex_link k v).facets r → IsRidge k.facets (with r v) × (has r v ≡ false)
  ridge_of r i =
      let p : (f : List ℕ) × (listed k.facets f ≡ true) × (has f v ≡ true) × (i.facet ≡ without f v) = from_facet i.facet i.there in
      let u : has (without p.0 v) i.label ≡ true = ap (λ g. has g i.label) (sym p.3) ∙ i.used in
      let e : r ≡ without (without p.0 v) i.label = i.is ∙ ap (λ g. without g i.label) p.3 in
      let other : v ≢ i.label = λ q. without_other p.0 v i.label u (sym q) in (
        record {
          facet = p.0;
          label = i.label;
          there = p.1;
          used = without_has p.0 v i.label u;
          is = ap (λ s. with s v) (e ∙ without_swap p.0 v i.label (set p.0 p.1)) ∙ with_back (without p.0 i.label) v (sorted_without p.0 i.label (set p.0 p.1)) (in_without p.0 i.label v p.2 other);
        },
        ap (λ s. has s v) e ∙ has-without (without p.0 v) i.label v ∙ ap (λ b. b && not (nat_eq v i.label)) (without_gone p.0 v),
      )

  pub link_closed : Closed k.facets → Closed (vertex_link k v).facets
  link_closed closed = record { two = λ r i. let p : IsRidge k.facets (with r v) × (has r v ≡ false) = ridge_of r i in count_link r p.1 ∙ closed.two (with r v) p.0 }

pub vertex_links_closed : VertexLinksClosed
vertex_links_closed k v c closed = link_closed k c v closed

pub good_links_law : GoodLinksLaw
good_links_law k v c proper closed none u = (link_closed k c v closed, (none.good (v ∷ []) (vertex_has k v c (omega (arith, proper)) u)).strong (omega (arith, proper)))
