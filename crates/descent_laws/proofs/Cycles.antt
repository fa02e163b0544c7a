-- Closed and strongly connected complexes of dimension 1.
use Rattle.std.proofs.Common.{◌≡◌, ◌≢◌, ℕ, ◌<◌, true, false, not, nat_eq, ◌||◌, ◌&&◌, List, [], ◌∷◌, length, map, sym, ◌∙◌, ap, refl, arith, ◌⊎◌, inl, inr}
use Rattle.std.specs.List.Sorted.{IsStrictlySortedBy}
use Rattle.std.specs.Ordering.{nat_cmp}
use Rattle.std.specs.Cmp.{first_so, second_so}
use Rattle.std.specs.Cmp.Derive.{both_true}
use Rattle.std.specs.Cmp.Lexicographic.{pointwise, nat_list_cmp_total}
use Rattle.std.proofs.lemmas.Cmp.{nat_cmp_total}
use Rattle.std.proofs.lemmas.List.Kept.{IsStrictlySortedBy-filter}
use Rattle.complex_core.specs.Labels.{has, holds, with, without, face_cmp, IsFace}
use Rattle.complex_core.specs.Rising.{rising}
use Rattle.complex_core.specs.Complexes.{ComplexView, IsComplex, IsFacet, over, is_held, is_facet}
use Rattle.complex_core.proofs.Sets.{above_head, above_tail, sorted_put, sorted_rising}
use Rattle.complex_core.proofs.Faces.{less_cmp, face_put, with_new}
use Rattle.complex_core.proofs.SubsetLists.{above_at, part_is_face, two, clash}
use Rattle.complex_core.proofs.Laws.{both_ways, has-with, holds_has, or_left, or_right, listed, listed-filter, listed-rising, found, some_has, some_listed, same_lists, same_sets_is, same_set_itself, length-without, nat_eq_is, nat_eq_same}
use Rattle.flip_rules.specs.Boundaries.{IsBoundary}
use Rattle.flip_rules.specs.Flips.{join_boundary, Legal}
use Rattle.flip_rules.specs.declared.flip.Flip.{Flip}
use Rattle.flip_rules.proofs.Links.{side, side_of, listed-join_boundary}
use Rattle.flip_rules.proofs.Legal.{legal_from}
use Rattle.pseudo_test.specs.Ridges.{count}
use Rattle.pseudo_test.specs.Chains.{Near}
use Rattle.pseudo_test.proofs.Incident.{found_set}
use Rattle.pseudo_test.proofs.Spreading.{apart_law}
use Rattle.flip_laws.specs.Keeping.{Keeps}
use Rattle.flip_laws.proofs.RidgesKept.{listed-map}
use Rattle.flip_laws.proofs.Replays.{replay_keeps}
use Rattle.descent_laws.specs.Descents.{IsReducing}
use Rattle.descent_laws.specs.Laws.{IsCycle, CycleReduces, CycleEnds, Descends}
use Rattle.descent_laws.proofs.Reducing.{other_label}
use Rattle.descent_laws.proofs.DescentRuns.{descent_descends}
use Rattle.descent_laws.proofs.Edges.{edge, edge_first, edge_second, edge_has, edge_lacks, edge_sorted, edge_length, edge_is, edge_swap, one_sorted, side_edge, HasTwo, same_two, these_two, Differ, differ_two}
use Rattle.complex_core.proofs.Members.{in_without}
use Rattle.complex_core.proofs.SetLists.{pure_at}

-- a set of one label
one_label : (r : List ℕ) → length r ≡ 1 → (p : ℕ) × (r ≡ p ∷ [])
one_label [] n = absurd (omega (arith, n))
one_label (p ∷ []) n = (p, refl)
one_label (p ∷ q ∷ rest) n = absurd (omega (arith, n))

over_one : (fs : List (List ℕ)) (p : ℕ) (f : List ℕ) → listed (over fs (p ∷ [])) f ≡ true → (listed fs f ≡ true) × (has f p ≡ true)
over_one fs p f t =
    let u : (listed fs f && holds f (p ∷ [])) ≡ true = sym (listed-filter (λ g. holds g (p ∷ [])) fs f) ∙ t in
    (first_so (listed fs f) (holds f (p ∷ [])) u, first_so (has f p) true (second_so (listed fs f) (holds f (p ∷ [])) u))

one_over : (fs : List (List ℕ)) (p : ℕ) (f : List ℕ) → listed fs f ≡ true → has f p ≡ true → listed (over fs (p ∷ [])) f ≡ true
one_over fs p f t h = listed-filter (λ g. holds g (p ∷ [])) fs f ∙ both_true t (both_true h refl)

module _ (k : ComplexView) (h : IsCycle k) where
  facet : (f : List ℕ) → listed k.facets f ≡ true → IsFacet k.dim f
  facet f t = pure_at k.dim k.facets f h.complex.pure t

  sorted : (f : List ℕ) → listed k.facets f ≡ true → IsStrictlySortedBy nat_cmp f
  sorted f t = above_tail nat_cmp 0 f (facet f t).face.rising

  size : (f : List ℕ) → listed k.facets f ≡ true → length f ≡ 2
  size f t = omega (arith, (facet f t).size, h.dim)

  positive : (f : List ℕ) (x : ℕ) → listed k.facets f ≡ true → has f x ≡ true → 0 < x
  positive f x t u = less_cmp 0 x (above_at 0 x f (above_head nat_cmp 0 f (facet f t).face.rising) u)

  -- two facets meet at each used label
  two_over : (f : List ℕ) (p : ℕ) → listed k.facets f ≡ true → has f p ≡ true → length (over k.facets (p ∷ [])) ≡ 2
  two_over f p t u =
      let q : (q : ℕ) × (has f q ≡ true) × (p ≢ q) = other_label f p (sorted f t) (omega (arith, size f t)) in
      let r : (v : ℕ) × (without f q.0 ≡ v ∷ []) = one_label (without f q.0) (omega (arith, length-without f q.0 (sorted f t) q.1, size f t)) in
      let in_r : has (without f q.0) p ≡ true = in_without f q.0 p u q.2 in
      let same : p ≡ r.0 = one_is p r.0 (ap (λ g. has g p) (sym r.1) ∙ in_r) in
      ap (λ v. count k.facets (v ∷ [])) same ∙ ap (count k.facets) (sym r.1) ∙ h.closed.two (without f q.0) (record { facet = f; label = q.0; there = t; used = q.1; is = refl })
    where
      one_is : (p v : ℕ) → has (v ∷ []) p ≡ true → p ≡ v
      one_is p v t = elim (two (nat_eq v p)) [ inl e ↦ sym (nat_eq_is v p e) | inr e ↦ clash {P = p ≡ v} (has (v ∷ []) p) t (ap (λ c. c || false) e) ]

  -- the two facets at a label
  corner : (s t : List ℕ) (p : ℕ) → listed k.facets s ≡ true → listed k.facets t ≡ true → (s ≢ t) → has s p ≡ true → has t p ≡ true → HasTwo (over k.facets (p ∷ [])) s t
  corner s t p u w d a b = these_two (over k.facets (p ∷ [])) s t (two_over s p u a) (one_over k.facets p s u a) (one_over k.facets p t w b) d

  -- a label, the labels at its other ends, and the two facets between
  module _ (v x y : ℕ) (vx : v ≢ x) (vy : v ≢ y) (xy : x ≢ y) (first : listed k.facets (edge v x) ≡ true) (second : listed k.facets (edge v y) ≡ true) where
    apart : edge v x ≢ edge v y
    apart e = clash {P = ⊥} (has (edge v y) x) (ap (λ f. has f x) (sym e) ∙ edge_second v x) (edge_lacks v y x (λ q. vx (sym q)) xy)

    at_v : HasTwo (over k.facets (v ∷ [])) (edge v x) (edge v y)
    at_v = corner (edge v x) (edge v y) v first second apart (edge_first v x) (edge_first v y)

    swapped : side (v ∷ []) (edge x y) y ≡ edge v x
    swapped = ap (λ b. side (v ∷ []) b y) (edge_swap x y xy) ∙ side_edge v y x vy vx (λ e. xy (sym e))

    two_sides : HasTwo (rising face_cmp (join_boundary (v ∷ []) (edge x y))) (edge v x) (edge v y)
    two_sides = record {
      first = there y (edge v x) (edge_second x y) swapped;
      second = there x (edge v y) (edge_first x y) (side_edge v x y vx vy xy);
      only = λ g t.
          let r : (z : ℕ) × (has (edge x y) z ≡ true) × (g ≡ side (v ∷ []) (edge x y) z) = side_of (v ∷ []) (edge x y) g (sym (listed-rising (join_boundary (v ∷ []) (edge x y)) g) ∙ t) in
          elim (edge_has x y r.0 r.1) [
            | inl e ↦ inr (r.2 ∙ ap (side (v ∷ []) (edge x y)) e ∙ side_edge v x y vx vy xy)
            | inr e ↦ inl (r.2 ∙ ap (side (v ∷ []) (edge x y)) e ∙ swapped)
          ];
    }
      where
        there : (z : ℕ) (s : List ℕ) → has (edge x y) z ≡ true → side (v ∷ []) (edge x y) z ≡ s → listed (rising face_cmp (join_boundary (v ∷ []) (edge x y))) s ≡ true
        there z s t e = listed-rising (join_boundary (v ∷ []) (edge x y)) s ∙ listed-join_boundary (v ∷ []) (edge x y) (edge x y) s ∙ some_has (λ w. pointwise nat_eq (side (v ∷ []) (edge x y) w) s) (edge x y) z t (ap (λ f. pointwise nat_eq f s) e ∙ same_set_itself s)

    -- where the third edge is missing, the label can be taken out
    legal_here : is_held k.facets (edge x y) ≡ false → Legal k (v ∷ []) (edge x y)
    legal_here free = record {
      shape = record {
        first = λ e. absurd (omega (arith, e));
        second = λ e. absurd (omega (arith, e, edge_length x y xy));
        apart = λ z t. ap (has (edge x y)) (one z t) ∙ edge_lacks x y v vx vy;
        sizes = omega (arith, edge_length x y xy, h.dim);
      };
      face = some_listed (λ f. holds f (v ∷ [])) k.facets (edge v x) first (both_true (edge_first v x) refl);
      link = same_two (over k.facets (v ∷ [])) (rising face_cmp (join_boundary (v ∷ []) (edge x y))) (edge v x) (edge v y)
          (IsStrictlySortedBy-filter face_cmp (λ f. holds f (v ∷ [])) k.facets h.complex.rising)
          (sorted_rising nat_list_cmp_total (join_boundary (v ∷ []) (edge x y))) at_v two_sides;
      free = free;
    }
      where
        one : (z : ℕ) → has (v ∷ []) z ≡ true → z ≡ v
        one z t = elim (two (nat_eq v z)) [ inl e ↦ sym (nat_eq_is v z e) | inr e ↦ clash {P = z ≡ v} (has (v ∷ []) z) t (ap (λ c. c || false) e) ]

    reduces_here : is_held k.facets (edge x y) ≡ false → IsReducing k (record { a = v ∷ []; b = edge x y })
    reduces_here free = record {
      faces = record {
        first = part_is_face (edge v x) (v ∷ []) (facet (edge v x) first).face (one_sorted v) (both_true (edge_first v x) refl);
        second = face_put y (x ∷ []) (part_is_face (edge v x) (x ∷ []) (facet (edge v x) first).face (one_sorted x) (both_true (edge_second v x) refl)) (positive (edge v y) y second (edge_second v y)) (omega (arith, edge_length x y xy));
      };
      legal = legal_from k (v ∷ []) (edge x y) (legal_here free);
      high = omega (arith, edge_length x y xy, h.dim);
    }

    -- ---- where it is there, these three edges are all facets
    module _ (third : listed k.facets (edge x y) ≡ true) where
      abbrev three : List (List ℕ)
      three = edge v x ∷ edge v y ∷ edge x y ∷ []

      is_first : listed three (edge v x) ≡ true
      is_first = or_left (pointwise nat_eq (edge v x) (edge v x)) (listed (edge v y ∷ edge x y ∷ []) (edge v x)) (same_set_itself (edge v x))

      is_second : listed three (edge v y) ≡ true
      is_second = or_right (pointwise nat_eq (edge v x) (edge v y)) (listed (edge v y ∷ edge x y ∷ []) (edge v y)) (or_left (pointwise nat_eq (edge v y) (edge v y)) (listed (edge x y ∷ []) (edge v y)) (same_set_itself (edge v y)))

      is_third : listed three (edge x y) ≡ true
      is_third = or_right (pointwise nat_eq (edge v x) (edge x y)) (listed (edge v y ∷ edge x y ∷ []) (edge x y)) (or_right (pointwise nat_eq (edge v y) (edge x y)) (listed (edge x y ∷ []) (edge x y)) (or_left (pointwise nat_eq (edge x y) (edge x y)) false (same_set_itself (edge x y))))

      of_three : (f : List ℕ) → listed three f ≡ true → (f ≡ edge v x) ⊎ ((f ≡ edge v y) ⊎ (f ≡ edge x y))
      of_three f t = elim (two (pointwise nat_eq (edge v x) f)) [
        | inl e ↦ inl (sym (same_sets_is (edge v x) f e))
        | inr n ↦ elim (two (pointwise nat_eq (edge v y) f)) [
          | inl e ↦ inr (inl (sym (same_sets_is (edge v y) f e)))
          | inr m ↦ elim (two (pointwise nat_eq (edge x y) f)) [
            | inl e ↦ inr (inr (sym (same_sets_is (edge x y) f e)))
            | inr o ↦ clash (listed three f) t (λ i. n i || (m i || (o i || false)))
          ]
        ]
      ]

      apart_x : edge v x ≢ edge x y
      apart_x e = clash {P = ⊥} (has (edge x y) v) (ap (λ f. has f v) (sym e) ∙ edge_first v x) (edge_lacks x y v vx vy)

      apart_y : edge v y ≢ edge x y
      apart_y e = clash {P = ⊥} (has (edge x y) v) (ap (λ f. has f v) (sym e) ∙ edge_first v y) (edge_lacks x y v vx vy)

      at_x : HasTwo (over k.facets (x ∷ [])) (edge v x) (edge x y)
      at_x = corner (edge v x) (edge x y) x first third apart_x (edge_second v x) (edge_first x y)

      at_y : HasTwo (over k.facets (y ∷ [])) (edge v y) (edge x y)
      at_y = corner (edge v y) (edge x y) y second third apart_y (edge_second v y) (edge_second x y)

      -- a facet at one of the three labels is one of the three
      at_label : (g : List ℕ) (p : ℕ) → listed k.facets g ≡ true → has g p ≡ true → (p ≡ v) ⊎ ((p ≡ x) ⊎ (p ≡ y)) → listed three g ≡ true
      at_label g p t u (inl e) = elim (at_v.only g (one_over k.facets v g t (ap (has g) (sym e) ∙ u))) [ inl q ↦ ap (listed three) q ∙ is_first | inr q ↦ ap (listed three) q ∙ is_second ]
      at_label g p t u (inr (inl e)) = elim (at_x.only g (one_over k.facets x g t (ap (has g) (sym e) ∙ u))) [ inl q ↦ ap (listed three) q ∙ is_first | inr q ↦ ap (listed three) q ∙ is_third ]
      at_label g p t u (inr (inr e)) = elim (at_y.only g (one_over k.facets y g t (ap (has g) (sym e) ∙ u))) [ inl q ↦ ap (listed three) q ∙ is_second | inr q ↦ ap (listed three) q ∙ is_third ]

      label_of : (f : List ℕ) (p : ℕ) → listed three f ≡ true → has f p ≡ true → (p ≡ v) ⊎ ((p ≡ x) ⊎ (p ≡ y))
      label_of f p t u = elim (of_three f t) [
        | inl e ↦ elim (edge_has v x p (ap (λ g. has g p) (sym e) ∙ u)) [ inl q ↦ inl q | inr q ↦ inr (inl q) ]
        | inr r ↦ elim r [
          | inl e ↦ elim (edge_has v y p (ap (λ g. has g p) (sym e) ∙ u)) [ inl q ↦ inl q | inr q ↦ inr (inr q) ]
          | inr e ↦ elim (edge_has x y p (ap (λ g. has g p) (sym e) ∙ u)) [ inl q ↦ inr (inl q) | inr q ↦ inr (inr q) ]
        ]
      ]

      stays : (f g : List ℕ) → listed three f ≡ true → is_facet k.facets g ≡ true → Near k.facets f g → listed three g ≡ true
      stays f g t u n =
          let r : (p : ℕ) × (n.ridge ≡ p ∷ []) = one_label n.ridge (omega (arith, ap length n.is.is, length-without n.is.facet n.is.label (sorted n.is.facet n.is.there) n.is.used, size n.is.facet n.is.there)) in
          let in_f : has f r.0 ≡ true = first_so (has f r.0) true (ap (holds f) (sym r.1) ∙ n.first) in
          let in_g : has g r.0 ≡ true = first_so (has g r.0) true (ap (holds g) (sym r.1) ∙ n.second) in
          at_label g r.0 u in_g (label_of f r.0 t in_f)

      all_three : (f : List ℕ) → listed k.facets f ≡ true → listed three f ≡ true
      all_three f t = elim (two (listed three f)) [
        | inl e ↦ e
        | inr e ↦ absurd (apart_law k.facets (listed three) stays (edge v x) f is_first e (h.strong.joined (edge v x) f first t))
      ]

      there : (f : List ℕ) → listed three f ≡ true → listed k.facets f ≡ true
      there f t = elim (of_three f t) [
        | inl e ↦ ap (listed k.facets) e ∙ first
        | inr r ↦ elim r [ inl e ↦ ap (listed k.facets) e ∙ second | inr e ↦ ap (listed k.facets) e ∙ third ]
      ]

      abbrev corners : List ℕ
      corners = with (edge x y) v

      in_corners : (z : ℕ) → has (edge x y) z ≡ true → has corners z ≡ true
      in_corners z t = has-with (edge x y) v z ∙ or_right (nat_eq v z) (has (edge x y) z) t

      v_corner : has corners v ≡ true
      v_corner = has-with (edge x y) v v ∙ or_left (nat_eq v v) (has (edge x y) v) (nat_eq_same v)

      corners_sorted : IsStrictlySortedBy nat_cmp corners
      corners_sorted = sorted_put nat_cmp_total v (edge x y) (edge_sorted x y)

      corners_many : length corners ≡ 3
      corners_many = omega (arith, with_new (edge x y) v (edge_lacks x y v vx vy), edge_length x y xy)

      -- the three labels less one of them
      less : (p q r : ℕ) → has corners p ≡ true → has corners q ≡ true → has corners r ≡ true → (q ≢ p) → (r ≢ p) → (q ≢ r) → without corners p ≡ edge q r
      less p q r hp hq hr qp rp qr = edge_is (without corners p) q r (filtered p) (omega (arith, length-without corners p corners_sorted hp, corners_many)) (in_without corners p q hq qp) (in_without corners p r hr rp) qr
        where
          filtered : (p : ℕ) → IsStrictlySortedBy nat_cmp (without corners p)
          filtered p = IsStrictlySortedBy-filter nat_cmp (λ z. not (nat_eq z p)) corners corners_sorted

      less_v : without corners v ≡ edge x y
      less_v = less v x y v_corner (in_corners x (edge_first x y)) (in_corners y (edge_second x y)) (λ e. vx (sym e)) (λ e. vy (sym e)) xy

      less_x : without corners x ≡ edge v y
      less_x = less x v y (in_corners x (edge_first x y)) v_corner (in_corners y (edge_second x y)) vx (λ e. xy (sym e)) vy

      less_y : without corners y ≡ edge v x
      less_y = less y v x (in_corners y (edge_second x y)) v_corner (in_corners x (edge_first x y)) vy xy vx

      lacks_one : (z : ℕ) → has corners z ≡ true → listed three (without corners z) ≡ true
      lacks_one z t = elim (two (nat_eq v z)) [
        | inl e ↦ ap (λ p. listed three (without corners p)) (sym (nat_eq_is v z e)) ∙ ap (listed three) less_v ∙ is_third
        | inr n ↦ elim (edge_has x y z (sym (has-with (edge x y) v z ∙ ap (λ c. c || has (edge x y) z) n) ∙ t)) [
          | inl e ↦ ap (λ p. listed three (without corners p)) e ∙ ap (listed three) less_x ∙ is_second
          | inr e ↦ ap (λ p. listed three (without corners p)) e ∙ ap (listed three) less_y ∙ is_first
        ]
      ]

      made : (z : ℕ) (f : List ℕ) → has corners z ≡ true → without corners z ≡ f → listed (map (λ p. without corners p) corners) f ≡ true
      made z f t e = listed-map corners corners f ∙ some_has (λ p. pointwise nat_eq (without corners p) f) corners z t (ap (λ g. pointwise nat_eq g f) e ∙ same_set_itself f)

      three_made : (f : List ℕ) → listed three f ≡ true → listed (map (λ p. without corners p) corners) f ≡ true
      three_made f t = elim (of_three f t) [
        | inl e ↦ made y f (in_corners y (edge_second x y)) (less_y ∙ sym e)
        | inr r ↦ elim r [
          | inl e ↦ made x f (in_corners x (edge_first x y)) (less_x ∙ sym e)
          | inr e ↦ made v f v_corner (less_v ∙ sym e)
        ]
      ]

      made_three : (f : List ℕ) → listed (map (λ p. without corners p) corners) f ≡ true → listed three f ≡ true
      made_three f t =
          let r : (z : ℕ) × (has corners z ≡ true) × (pointwise nat_eq (without corners z) f ≡ true) = found (λ p. pointwise nat_eq (without corners p) f) corners (sym (listed-map corners corners f) ∙ t) in
          ap (listed three) (sym (same_sets_is (without corners r.0) f r.2)) ∙ lacks_one r.0 r.1

      is_boundary : IsBoundary k
      is_boundary = (
        corners,
        record {
          rises = (face_with.rising);
          many = omega (arith, corners_many, h.dim);
          all = same_lists k.facets (rising face_cmp (map (λ p. without corners p) corners)) h.complex.rising (sorted_rising nat_list_cmp_total (map (λ p. without corners p) corners)) (λ f.
              both_ways (listed k.facets f) (listed (map (λ p. without corners p) corners) f) (λ t. three_made f (all_three f t)) (λ t. there f (made_three f t)) ∙ sym (listed-rising (map (λ p. without corners p) corners) f));
        },
      )
        where
          face_with : IsFace corners
          face_with = face_put v (edge x y) (facet (edge x y) third).face (positive (edge v x) v first (edge_first v x)) (omega (arith, corners_many))

    decided : IsBoundary k ⊎ ((f : Flip) × IsReducing k f × (length f.b ≡ 2))
    decided = elim (two (is_held k.facets (edge x y))) [
      | inr free ↦ inr (record { a = v ∷ []; b = edge x y }, reduces_here free, edge_length x y xy)
      | inl held ↦
          let g : (g : List ℕ) × (is_facet k.facets g ≡ true) × (holds g (edge x y) ≡ true) = found_set (λ f. holds f (edge x y)) k.facets held in
          let e : g.0 ≡ edge x y = edge_is g.0 x y (sorted g.0 g.1) (size g.0 g.1) (holds_has g.0 (edge x y) x g.2 (edge_first x y)) (holds_has g.0 (edge x y) y g.2 (edge_second x y)) xy in
          inl (is_boundary (ap (listed k.facets) (sym e) ∙ g.1))
    ]

  some_facet : (fs : List (List ℕ)) → 0 < length fs → (f : List ℕ) × (listed fs f ≡ true)
  some_facet [] n = absurd (omega (arith, n))
  some_facet (f ∷ fs) n = (f, or_left (pointwise nat_eq f f) (listed fs f) (same_set_itself f))

  some_label : (f : List ℕ) → length f ≡ 2 → (v : ℕ) × (has f v ≡ true)
  some_label [] n = absurd (omega (arith, n))
  some_label (v ∷ rest) n = (v, or_left (nat_eq v v) (has rest v) (nat_eq_same v))

  pub cycle_reduces_here : IsBoundary k ⊎ ((f : Flip) × IsReducing k f × (length f.b ≡ 2))
  cycle_reduces_here =
      let f : (f : List ℕ) × (listed k.facets f ≡ true) = some_facet k.facets h.complex.some in
      let v : (v : ℕ) × (has f.0 v ≡ true) = some_label f.0 (size f.0 f.1) in
      let d : Differ (over k.facets (v.0 ∷ [])) = differ_two (over k.facets (v.0 ∷ [])) (IsStrictlySortedBy-filter face_cmp (λ g. holds g (v.0 ∷ [])) k.facets h.complex.rising) (two_over f.0 v.0 f.1 v.1) in
      let s : (listed k.facets d.one ≡ true) × (has d.one v.0 ≡ true) = over_one k.facets v.0 d.one d.first in
      let t : (listed k.facets d.other ≡ true) × (has d.other v.0 ≡ true) = over_one k.facets v.0 d.other d.second in
      let x : (x : ℕ) × (has d.one x ≡ true) × (v.0 ≢ x) = other_label d.one v.0 (sorted d.one s.0) (omega (arith, size d.one s.0)) in
      let y : (y : ℕ) × (has d.other y ≡ true) × (v.0 ≢ y) = other_label d.other v.0 (sorted d.other t.0) (omega (arith, size d.other t.0)) in
      let e : d.one ≡ edge v.0 x.0 = edge_is d.one v.0 x.0 (sorted d.one s.0) (size d.one s.0) s.1 x.1 x.2 in
      let g : d.other ≡ edge v.0 y.0 = edge_is d.other v.0 y.0 (sorted d.other t.0) (size d.other t.0) t.1 y.1 y.2 in
      decided v.0 x.0 y.0 x.2 y.2 (λ q. d.apart (e ∙ ap (edge v.0) q ∙ sym g)) (ap (listed k.facets) (sym e) ∙ s.0) (ap (listed k.facets) (sym g) ∙ t.0)

pub cycle_reduces : CycleReduces
cycle_reduces k h = cycle_reduces_here k h

pub cycle_ends : CycleEnds
cycle_ends k m fs h d =
    let r : Descends k fs m = descent_descends k m fs d in
    let p : IsComplex m × Keeps k m = replay_keeps k m fs h.complex r.faces r.replays in
    let c : IsCycle m = record { complex = p.0; dim = sym p.1.dim ∙ h.dim; closed = p.1.closed.0 h.closed; strong = p.1.strong.0 h.strong } in
    elim (cycle_reduces m c) [ inl b ↦ b | inr f ↦ absurd (r.minimal.none f.0 f.1) ]
