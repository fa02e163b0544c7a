-- The search over ordered images, which are compared place by place.
use Rattle.std.proofs.Common.{zero, suc, ◌≡◌, ℕ, ◌<◌, ◌≤◌, ◌+◌, Bool, true, false, not, nat_eq, ◌||◌, ◌&&◌, List, [], ◌∷◌, ◌++◌, length, map, take, drop, get_or, sym, ◌∙◌, ap, refl, subst, arith, inl, inr, Result, Ok, Err, Option, Some, None, IfOk, IfSome, IfNone, MatchOption}
use Rattle.std.specs.List.Sorted.{IsStrictlySortedBy}
use Rattle.std.specs.Ordering.{nat_cmp, ordering_then}
use Rattle.std.specs.declared.cmp.Ordering.TheVariants.{Less, Equal, Greater}
use Rattle.std.specs.Cmp.Derive.{both_true}
use Rattle.std.specs.Cmp.Lexicographic.{slice_cmp, nat_list_cmp_total}
use Rattle.std.proofs.lemmas.Cmp.{nat_cmp_total, tied_itself}
use Rattle.std.proofs.lemmas.List.{length-append, length-map, take_more}
use Rattle.std.proofs.Math.Seq.{take-append_seam}
use Rattle.std.proofs.lemmas.List.Folds.{list_any-append}
use Rattle.complex_core.specs.Labels.{has, holds}
use Rattle.complex_core.specs.Rising.{put, rising}
use Rattle.complex_core.specs.Complexes.{ComplexView, is_facet}
use Rattle.complex_core.specs.Maps.{at}
use Rattle.complex_core.proofs.Sets.{above_head, above_tail, length-put_new, not_among, sorted_drop, sorted_put, sorted_rising}
use Rattle.complex_core.proofs.Faces.{among-has, around, drop_next}
use Rattle.complex_core.proofs.Laws.{has-with, holds_each, holds_has, nat_eq_is, nat_eq_same, or_left, or_right, same_labels}
use Rattle.complex_core.proofs.Members.{has-rising, has_place, has_snoc, map_has}
use Rattle.complex_core.proofs.SubsetLists.{above_at, clash, fewer, two}
use Rattle.pseudo_test.proofs.Incident.{set, size, whole}
use Rattle.facet_iso.specs.Isomorphisms.{least_facet, ordered_image}
use Rattle.facet_iso.specs.Searches.{alike, Begins, IsBegun, IsLeastBegun, IsSearch, NoneBegins}
use Rattle.facet_iso.specs.Trials.{IsOrdered, NoneOrdered}
use Rattle.facet_iso.specs.declared.search.Search.{Search}
use Rattle.facet_iso.proofs.Images.{one_label}
use Rattle.facet_iso.proofs.Counted.{images_alike}
use Rattle.facet_iso.proofs.Trying.{least_there}

-- ---- lists

none_behind : (xs ys : List ℕ) → length (xs ++ ys) ≡ length xs → xs ++ ys ≡ xs
none_behind [] [] e = refl
none_behind [] (y ∷ ys) e = absurd (omega (arith, e))
none_behind (x ∷ xs) ys e = ap (λ zs. x ∷ zs) (none_behind xs ys (omega (arith, e)))

append_one : (xs : List ℕ) (y : ℕ) (ys : List ℕ) → xs ++ (y ∷ ys) ≡ (xs ++ y ∷ []) ++ ys
append_one [] y ys = refl
append_one (x ∷ xs) y ys = ap (λ zs. x ∷ zs) (append_one xs y ys)

behind_is : (xs : List ℕ) (y : ℕ) (ys : List ℕ) → get_or (xs ++ (y ∷ ys)) (length xs) 0 ≡ y
behind_is [] y ys = refl
behind_is (x ∷ xs) y ys = behind_is xs y ys

map_at : (h : ℕ → ℕ) (xs : List ℕ) (i : ℕ) → i < length xs → get_or (map h xs) i 0 ≡ h (get_or xs i 0)
map_at h [] i l = absurd (omega (arith, l))
map_at h (x ∷ xs) zero l = refl
map_at h (x ∷ xs) (suc i) l = map_at h xs i (omega (arith, l))

-- an image of rising labels stands once, where no two have one image
image_once : (h : ℕ → ℕ) (f xs : List ℕ) (y : ℕ) (ys : List ℕ) → IsStrictlySortedBy nat_cmp f → ((x z : ℕ) → has f x ≡ true → has f z ≡ true → h x ≡ h z → x ≡ z) → map h f ≡ xs ++ (y ∷ ys) → has xs y ≡ false
image_once h f [] y ys s one e = refl
image_once h [] (x ∷ xs) y ys s one e = absurd (omega (arith, ap length e))
image_once h (v ∷ f) (x ∷ xs) y ys s one e = elim (two (nat_eq x y)) [
  | inl q ↦
      let hv : h v ≡ x = ap (λ zs. get_or zs 0 0) e in
      let r : (z : ℕ) × (has f z ≡ true) × (y ≡ h z) = map_has h f y (ap (λ zs. has zs y) (ap tail e) ∙ list_any-append (λ w. nat_eq w y) xs (y ∷ ys) ∙ or_right (has xs y) (nat_eq y y || has ys y) (or_left (nat_eq y y) (has ys y) (nat_eq_same y))) in
      let same : v ≡ r.0 = one v r.0 (or_left (nat_eq v v) (has f v) (nat_eq_same v)) (or_right (nat_eq v r.0) (has f r.0) r.1) (hv ∙ nat_eq_is x y q ∙ r.2) in
      clash (has f v) (ap (has f) same ∙ r.1) (sym (among-has v f) ∙ not_among nat_cmp_total v f (above_head nat_cmp v f s))
  | inr q ↦ ap (λ b. b || has xs y) q ∙ image_once h f xs y ys (above_tail nat_cmp v f s) (λ w z t u. one w z (or_right (nat_eq v w) (has f w) t) (or_right (nat_eq v z) (has f z) u)) (ap tail e)
]
  where
    tail : List ℕ → List ℕ
    tail [] = []
    tail (z ∷ zs) = zs

-- the first place where they differ decides
less_behind : (xs : List ℕ) (x y : ℕ) (us vs : List ℕ) → nat_cmp x y ≡ Less → slice_cmp nat_cmp (xs ++ (x ∷ us)) (xs ++ (y ∷ vs)) ≡ Less
less_behind [] x y us vs l = ap (λ o. ordering_then o (slice_cmp nat_cmp us vs)) l
less_behind (z ∷ zs) x y us vs l = ap (λ o. ordering_then o (slice_cmp nat_cmp (zs ++ (x ∷ us)) (zs ++ (y ∷ vs)))) (tied_itself nat_cmp_total z) ∙ less_behind zs x y us vs l

-- a label of a rising list is before a place, there, or above it
where_label : (xs : List ℕ) (i y : ℕ) {P : Type 0} → IsStrictlySortedBy nat_cmp xs → i < length xs → has xs y ≡ true → (has (take i xs) y ≡ true → P) → (get_or xs i 0 ≡ y → P) → (nat_cmp (get_or xs i 0) y ≡ Less → P) → P
where_label xs i y {P} s l t before here behind = elim (two (has (take i xs) y)) [
  | inl e ↦ before e
  | inr e ↦
      let parts : has xs y ≡ (has (take i xs) y || (nat_eq (get_or xs i 0) y || has (drop (i + 1) xs) y)) = ap (λ zs. has zs y) (around xs i 0 l) ∙ list_any-append (λ w. nat_eq w y) (take i xs) (get_or xs i 0 ∷ drop (i + 1) xs) in
      elim (two (nat_eq (get_or xs i 0) y)) [
        | inl q ↦ here (nat_eq_is (get_or xs i 0) y q)
        | inr q ↦
            let Q : List ℕ → Type 0 = λ zs. IsStrictlySortedBy nat_cmp zs in
            behind (above_at (get_or xs i 0) y (drop (i + 1) xs) (above_head nat_cmp (get_or xs i 0) (drop (i + 1) xs) (subst Q (drop_next xs i 0 l) (sorted_drop nat_cmp i xs s)))
            (sym ((λ j. e j || (q j || has (drop (i + 1) xs) y))) ∙ sym parts ∙ t))
      ]
]

-- ---- beginnings of ordered images

module _ (k l : ComplexView) (s : Search) (h : IsSearch k l s) (facet : List ℕ) (u : is_facet l.facets facet ≡ true) (order : List ℕ) (b : IsBegun facet order) where
  least_size : length s.least ≡ length facet
  least_size = omega (arith, ap length h.least, size k h.first (least_facet k) (least_there k h.first), size l h.second facet u, h.dim)

  facet_holds : holds facet (rising nat_cmp order) ≡ true
  facet_holds = holds_each facet (rising nat_cmp order) (λ z t. holds_has facet order z b.within (sym (has-rising order z) ∙ t))

  rises : IsStrictlySortedBy nat_cmp (rising nat_cmp order)
  rises = sorted_rising nat_cmp_total order

  pub not_longer : length order ≤ length s.least
  not_longer = omega (arith, b.differ, least_size, fewer (rising nat_cmp order) facet rises (set l h.second facet u) facet_holds)

  pub all_labels : length order ≡ length s.least → rising nat_cmp order ≡ facet
  all_labels e = whole (rising nat_cmp order) facet rises (set l h.second facet u) facet_holds (omega (arith, b.differ, least_size, e))

  pub grows : (x : ℕ) → has facet x ≡ true → has order x ≡ false → IsBegun facet (order ++ x ∷ [])
  grows x t n = record {
    within = holds_each facet (order ++ x ∷ []) (λ z v. elim (two (has order z)) [
      | inl e ↦ holds_has facet order z b.within e
      | inr e ↦ ap (has facet) (sym (nat_eq_is x z (sym (ap (λ c. c || nat_eq x z) e) ∙ sym (has_snoc order x z) ∙ v))) ∙ t
    ]);
    differ = omega (arith, ap length pushed, length-put_new nat_cmp x (rising nat_cmp order) (among-has x (rising nat_cmp order) ∙ has-rising order x ∙ n), b.differ, length-append order (x ∷ []));
  }
    where
      swap : (c d : Bool) → (c || d) ≡ (d || c)
      swap true true = refl
      swap true false = refl
      swap false true = refl
      swap false false = refl

      pushed : rising nat_cmp (order ++ x ∷ []) ≡ put nat_cmp x (rising nat_cmp order)
      pushed = same_labels (rising nat_cmp (order ++ x ∷ [])) (put nat_cmp x (rising nat_cmp order)) (sorted_rising nat_cmp_total (order ++ x ∷ [])) (sorted_put nat_cmp_total x (rising nat_cmp order) rises) (λ z.
          has-rising (order ++ x ∷ []) z ∙ has_snoc order x z ∙ swap (has order z) (nat_eq x z) ∙ ap (λ c. nat_eq x z || c) (sym (has-rising order z)) ∙ sym (has-with (rising nat_cmp order) x z))

  -- ---- a whole ordered image

  whole_image : (m : List (ℕ × ℕ)) → length order ≡ length s.least → (e : Begins k l facet order m) → ordered_image k m ≡ order
  whole_image m n e = e.order ∙ none_behind order e.rest (sym (ap length e.order) ∙ length-map (least_facet k) (at m) ∙ ap length (sym h.least) ∙ sym n)

  pub none_whole : length order ≡ length s.least → NoneOrdered k l order → NoneBegins k l facet order
  none_whole n f m e = f m e.takes (whole_image m n e)

  pub one_whole : (m : List (ℕ × ℕ)) → length order ≡ length s.least → IsOrdered k l order m → IsLeastBegun k l facet order m
  one_whole m n o = record {
    begins = record {
      takes = o.takes;
      onto = ap (rising nat_cmp) o.ordered ∙ all_labels n;
      rest = [];
      order = o.ordered ∙ sym (append_none order);
    };
    labels = o.labels;
    least = λ p e g. let q : slice_cmp nat_cmp order order ≡ Greater = sym (λ i. slice_cmp nat_cmp (o.ordered i) (whole_image p n e i)) ∙ g in let r : slice_cmp nat_cmp order order ≡ Equal = tied_itself nat_list_cmp_total order in let c : Equal ≡ Greater = sym r ∙ q in cc;
  }
    where
      append_none : (xs : List ℕ) → xs ++ [] ≡ xs
      append_none [] = refl
      append_none (x ∷ xs) = ap (λ ys. x ∷ ys) (append_none xs)

  pub answer_whole : {E : Type 0} (r : Result (Option (List (ℕ × ℕ))) E) → length order ≡ length s.least → IfOk r (λ o. MatchOption o (NoneOrdered k l order) (IsOrdered k l order)) → IfOk r (λ o. IfSome o (IsLeastBegun k l facet order)) × IfOk r (λ o. IfNone o (NoneBegins k l facet order))
  answer_whole (Ok None) n a = (tt, none_whole n a)
  answer_whole (Ok (Some m)) n a = (one_whole m n a, tt)
  answer_whole (Err e) n a = (tt, tt)

  -- ---- the next label of an ordered image

  -- a label that is there already, or has another degree, can't be the next one
  pub cannot_follow : (x : ℕ) (shown : List ℕ) → shown ≡ order → length order < length s.least → (not (has shown x) && alike s (get_or s.least (length shown) 0) x) ≡ false → NoneBegins k l facet (order ++ x ∷ [])
  cannot_follow x shown es n f m e = clash (not (has shown x) && alike s y x) (both_true (ap not (ap (λ o. has o x) es ∙ once)) same) f
    where
      y : ℕ
      y = get_or s.least (length shown) 0

      ey : y ≡ get_or s.least (length order) 0
      ey = ap (λ o. get_or s.least (length o) 0) es

      image : ordered_image k m ≡ order ++ (x ∷ e.rest)
      image = e.order ∙ sym (append_one order x e.rest)

      used_y : has (least_facet k) y ≡ true
      used_y = ap (has (least_facet k)) (ey ∙ ap (λ f. get_or f (length order) 0) h.least) ∙ has_place (least_facet k) (length order) (omega (arith, n, ap length h.least))

      image_y : at m y ≡ x
      image_y = ap (at m) (ey ∙ ap (λ f. get_or f (length order) 0) h.least) ∙ sym (map_at (at m) (least_facet k) (length order) (omega (arith, n, ap length h.least))) ∙ ap (λ f. get_or f (length order) 0) image ∙ behind_is order x e.rest

      once : has order x ≡ false
      once = image_once (at m) (least_facet k) order x e.rest (set k h.first (least_facet k) (least_there k h.first)) (λ v w t u q. one_label k l m e.takes (least_facet k) (least_facet k) v w (least_there k h.first) (least_there k h.first) t u q) image

      same : alike s y x ≡ true
      same = ap (alike s y) (sym image_y) ∙ images_alike k l s m (least_facet k) y h e.takes (least_there k h.first) used_y

  -- each ordered image goes on with a label of the facet
  goes_on : (m : List (ℕ × ℕ)) → length order < length s.least → Begins k l facet order m → (y : ℕ) × (has facet y ≡ true) × Begins k l facet (order ++ y ∷ []) m
  goes_on m n e = on e.rest e.order
    where
      on : (rest : List ℕ) → ordered_image k m ≡ order ++ rest → (y : ℕ) × (has facet y ≡ true) × Begins k l facet (order ++ y ∷ []) m
      on [] q = absurd (omega (arith, n, sym (length-map (least_facet k) (at m)) ∙ ap length q, length-append order [], ap length h.least))
      on (y ∷ rest) q = (
        y,
        ap (λ f. has f y) (sym e.onto) ∙ has-rising (map (at m) (least_facet k)) y ∙ ap (λ f. has f y) q ∙ list_any-append (λ w. nat_eq w y) order (y ∷ rest) ∙ or_right (has order y) (nat_eq y y || has rest y) (or_left (nat_eq y y) (has rest y) (nat_eq_same y)),
        record { takes = e.takes; onto = e.onto; rest = rest; order = q ∙ append_one order y rest },
      )

  pub none_follows : length order < length s.least → ((y : ℕ) → has facet y ≡ true → NoneBegins k l facet (order ++ y ∷ [])) → NoneBegins k l facet order
  none_follows n f m e = let g = goes_on m n e in f g.0 g.1 m g.2

  -- the least one goes on with the least label that one can go on with
  pub least_follows : (labels : List ℕ) (i x : ℕ) (m : List (ℕ × ℕ)) → labels ≡ facet → length order < length s.least → i < length labels → x ≡ get_or labels i 0 → ((y : ℕ) → has (take i labels) y ≡ true → NoneBegins k l facet (order ++ y ∷ [])) → IsLeastBegun k l facet (order ++ x ∷ []) m → IsLeastBegun k l facet order m
  least_follows labels i x m el n il ex before a = record {
    begins = record { takes = a.begins.takes; onto = a.begins.onto; rest = x ∷ a.begins.rest; order = image };
    labels = a.labels;
    least = λ p e g.
        let q : (y : ℕ) × (has facet y ≡ true) × Begins k l facet (order ++ y ∷ []) p = goes_on p n e in
        where_label labels i q.0 {P = ⊥} (let P : List ℕ → Type 0 = λ zs. IsStrictlySortedBy nat_cmp zs in subst P (sym el) (set l h.second facet u)) il (ap (λ zs. has zs q.0) el ∙ q.1)
        (λ t. before q.0 t p q.2)
        (λ t. a.least p (let P : ℕ → Type 0 = λ y. Begins k l facet (order ++ y ∷ []) p in subst P (sym (ex ∙ t)) q.2) g)
        (λ t. let c : Less ≡ Greater = sym (less_behind order x q.0 a.begins.rest q.2.rest (ap (λ y. nat_cmp y q.0) ex ∙ t)) ∙ sym (λ j. slice_cmp nat_cmp (image j) ((q.2.order ∙ sym (append_one order q.0 q.2.rest)) j)) ∙ g in cc);
  }
    where
      image : ordered_image k m ≡ order ++ (x ∷ a.begins.rest)
      image = a.begins.order ∙ sym (append_one order x a.begins.rest)

  -- ---- one more label of the facet

  pub none_more : (labels : List ℕ) (i : ℕ) → i < length labels → ((y : ℕ) → has (take i labels) y ≡ true → NoneBegins k l facet (order ++ y ∷ [])) → NoneBegins k l facet (order ++ get_or labels i 0 ∷ []) → (y : ℕ) → has (take (i + 1) labels) y ≡ true → NoneBegins k l facet (order ++ y ∷ [])
  none_more labels i n before here y t = elim (two (has (take i labels) y)) [
    | inl e ↦ before y e
    | inr e ↦
        let q : (has (take i labels) y || nat_eq (get_or labels i 0) y) ≡ true = sym (has_snoc (take i labels) (get_or labels i 0) y) ∙ ap (λ zs. has zs y) (sym (take_more labels i 0 n)) ∙ t in
        let P : ℕ → Type 0 = λ z. NoneBegins k l facet (order ++ z ∷ []) in
        subst P (nat_eq_is (get_or labels i 0) y (sym (ap (λ b. b || nat_eq (get_or labels i 0) y) e) ∙ q)) here
  ]

  module _ (x : ℕ) (old pushed : List ℕ) (eo : old ≡ order) (ep : pushed ≡ old ++ x ∷ []) (o : Option (List (ℕ × ℕ))) where
    pushed_is : pushed ≡ order ++ x ∷ []
    pushed_is = ep ∙ ap (λ ys. ys ++ x ∷ []) eo

    pub when_least : (m : List (ℕ × ℕ)) → IfSome o (IsLeastBegun k l facet pushed) → o ≡ Some m → IsLeastBegun k l facet (order ++ x ∷ []) m
    when_least m f e = let P : List ℕ → Option (List (ℕ × ℕ)) → Type 0 = λ ys p. IfSome p (IsLeastBegun k l facet ys) in let Q : List ℕ → Type 0 = λ ys. P ys o in let R : Option (List (ℕ × ℕ)) → Type 0 = λ p. P (order ++ x ∷ []) p in subst R e (subst Q pushed_is f)

    pub when_none : IfNone o (NoneBegins k l facet pushed) → o ≡ None → NoneBegins k l facet (order ++ x ∷ [])
    when_none f e = let P : List ℕ → Option (List (ℕ × ℕ)) → Type 0 = λ ys p. IfNone p (NoneBegins k l facet ys) in let Q : List ℕ → Type 0 = λ ys. P ys o in let R : Option (List (ℕ × ℕ)) → Type 0 = λ p. P (order ++ x ∷ []) p in subst R e (subst Q pushed_is f)

    pub popped : (back new : List ℕ) (n : ℕ) → IfNone o (back ≡ pushed) → o ≡ None → new ≡ take n back → n + 1 ≡ length back → new ≡ order
    popped back new n f e en l =
        let R : Option (List (ℕ × ℕ)) → Type 0 = λ p. IfNone p (back ≡ pushed) in
        let b : back ≡ order ++ x ∷ [] = subst R e f ∙ pushed_is in
        let c : n ≡ length order = omega (arith, l, ap length b, length-append order (x ∷ [])) in
        en ∙ (λ j. take (c j) (b j)) ∙ take-append_seam order (x ∷ [])

    pub begun_next : IsBegun facet (order ++ x ∷ []) → IsBegun facet pushed
    begun_next b = let P : List ℕ → Type 0 = λ ys. IsBegun facet ys in subst P (sym pushed_is) b
