-- The faces that flips take out, gathered one label after another.
use Rattle.std.proofs.Common.{append_assoc, ◌≡◌, inl, inr, ℕ, zero, suc, ◌+◌, ◌-◌, ◌<◌, ◌≤◌, ◌≢◌, Bool, true, false, cond, nat_eq, nat_lt, not, ◌||◌, ◌&&◌, Option, Some, None, List, [], ◌∷◌, ◌++◌, length, map, filter, take, get_or, sym, ◌∙◌, ap, refl, subst, arith}
use Rattle.std.specs.List.{flat_map, list_any, cons_option}
use Rattle.std.specs.List.Sorted.{IsStrictlySortedBy}
use Rattle.std.specs.Option.{IsSome, SomeIff}
use Rattle.std.specs.Ordering.{nat_cmp}
use Rattle.std.specs.Result.{is_ok}
use Rattle.std.specs.Cmp.{first_so, second_so}
use Rattle.std.proofs.lemmas.Cmp.{nat_cmp_total}
use Rattle.std.proofs.lemmas.Grind.{flat_map-append}
use Rattle.std.proofs.lemmas.List.{append-nil, length-map, map-append, take_more, take_all}
use Rattle.std.proofs.lemmas.List.Elements.{filter_map-append}
use Rattle.std.proofs.lemmas.List.Folds.{list_any-append}
use Rattle.std.proofs.lemmas.List.Kept.{IsStrictlySortedBy-filter}
use Rattle.complex_core.specs.Labels.{has, with, face_cmp}
use Rattle.complex_core.specs.Rising.{rising}
use Rattle.complex_core.specs.Complexes.{over, is_held}
use Rattle.complex_core.specs.Maps.{used}
use Rattle.complex_core.proofs.Laws.{length_put_le, same_labels}
use Rattle.complex_core.proofs.Sorting.{each_filter}
use Rattle.std.proofs.lemmas.Bool.Decides.{nat_tests}
use Rattle.anneal_plan.proofs.Stepping.{is_some_of, some_is}
use Rattle.complex_core.proofs.Members.{has-rising, has_place}
use Rattle.complex_core.proofs.Sets.{sorted_rising}
use Rattle.complex_core.proofs.SetLists.{over_twice, rising_length}
use Rattle.complex_core.proofs.SubsetLists.{two}
use Rattle.flip_rules.specs.Flips.{has_shape, link_is, join_boundary, broken_rule_near}
use Rattle.flip_rules.specs.declared.flip.Flip.{Flip}
use Rattle.flip_rules.proofs.Legal.{verdict, shaped}
use Rattle.flip_rules.proofs.Links.{side, same_lists_is}
use Rattle.stars.specs.Candidates.{flip_of, flip_at, opposite}
use Rattle.anneal_plan.specs.Faces.{IsRow, AreRows, flips_at, faces_out}
use Rattle.anneal_plan.specs.Growth.{comes_next, next_labels, grown}
use Rattle.anneal_plan.proofs.NextLabels.{has-filter}
use Rattle.anneal_plan.proofs.Growing.{over_with, grown_alike}

-- ---- the labels that may come next

has-flat_map : (f : List ℕ → List ℕ) (rows : List (List ℕ)) (z : ℕ) → has (flat_map f rows) z ≡ list_any (λ r. has (f r) z) rows
has-flat_map f [] z = refl
has-flat_map f (r ∷ rows) z = list_any-append (λ y. nat_eq y z) (f r) (flat_map f rows) ∙ ap (λ b. has (f r) z || b) (has-flat_map f rows z)

each_next : (q : ℕ → Bool) (rows : List (List ℕ)) (z : ℕ) → list_any (λ r. has (filter q r) z) rows ≡ (list_any (λ r. has r z) rows && q z)
each_next q [] z = refl
each_next q (r ∷ rows) z = (λ i. has-filter q r z i || each_next q rows z i) ∙ one_test (has r z) (list_any (λ w. has w z) rows) (q z)
  where
    one_test : (a b c : Bool) → ((a && c) || (b && c)) ≡ ((a || b) && c)
    one_test true true true = refl
    one_test true true false = refl
    one_test true false true = refl
    one_test true false false = refl
    one_test false b c = refl

pub next_of_rows : (q : ℕ → Bool) (rows : List (List ℕ)) → rising nat_cmp (flat_map (filter q) rows) ≡ filter q (used rows)
next_of_rows q rows = same_labels (rising nat_cmp (flat_map (filter q) rows)) (filter q (used rows))
    (sorted_rising nat_cmp_total (flat_map (filter q) rows))
    (IsStrictlySortedBy-filter nat_cmp q (used rows) (sorted_rising nat_cmp_total (flat_map (λ f. f) rows)))
    (λ z. has-rising (flat_map (filter q) rows) z
    ∙ has-flat_map (filter q) rows z
    ∙ each_next q rows z
    ∙ sym (has-filter q (used rows) z ∙ ap (λ b. b && q z) (has-rising (flat_map (λ f. f) rows) z ∙ has-flat_map (λ f. f) rows z)))

-- ---- a face

-- more facets than a flip takes out
too_many : (d : ℕ) (rows : List (List ℕ)) (a : List ℕ) → d + 2 < length rows + length a → over rows a ≡ rows → flip_at d rows a ≡ None
too_many d rows a l e = elim (two (is_ok (broken_rule_near d rows [] a (opposite rows a)))) [
  | inl t ↦
      let p : (has_shape d a (opposite rows a) ≡ true) × (link_is rows a (opposite rows a) ≡ true) = passes (has_shape d a (opposite rows a)) (is_held rows a) (link_is rows a (opposite rows a)) t in
      let sizes : length a + length (opposite rows a) ≡ d + 2 = (shaped d a (opposite rows a) p.0).sizes in
      let link : rows ≡ rising face_cmp (join_boundary a (opposite rows a)) = sym e ∙ same_lists_is (over rows a) (rising face_cmp (join_boundary a (opposite rows a))) p.1 in
      absurd (omega (arith, l, sizes, ap length link, rising_length (join_boundary a (opposite rows a)), length-map (opposite rows a) (side a (opposite rows a))))
  | inr f ↦ ap (λ c. cond c (Some (flip_of a (opposite rows a))) None) f
]
  where
    passes : (s h l : Bool) → is_ok (verdict s h l false) ≡ true → (s ≡ true) × (l ≡ true)
    passes true true true t = (refl, refl)
    passes true true false t = let c : false ≡ true = t in cc
    passes true false l t = let c : false ≡ true = t in cc
    passes false h l t = let c : false ≡ true = t in cc

pub none_out : (d : ℕ) (rows : List (List ℕ)) (a : List ℕ) (all : List (List ℕ)) → d + 2 < length rows + length a → over rows a ≡ rows → all ≡ all ++ faces_out d rows (a ∷ [])
none_out d rows a all l e = sym (ap (λ o. all ++ map (λ (f : Flip). f.a) (cons_option o [])) (too_many d rows a l e) ∙ append-nil all)

-- ---- one label more

-- the facets with the label are all over the face with it
pub narrowed : (rows near : List (List ℕ)) (a : List ℕ) (x : ℕ) → over rows a ≡ rows → near ≡ filter (λ r. has r x) rows → near ≡ over rows (with a x)
narrowed rows near a x e is = is ∙ ap (filter (λ r. has r x)) (sym e) ∙ sym (over_with rows a x)

pub all_over : (rows near : List (List ℕ)) (a : List ℕ) (x : ℕ) (more : List ℕ) → over rows a ≡ rows → near ≡ filter (λ r. has r x) rows → more ≡ with a x → over near more ≡ near
all_over rows near a x more e is m = let n : near ≡ over rows (with a x) = narrowed rows near a x e is in ap (over near) m ∙ ap (λ fs. over fs (with a x)) n ∙ over_twice rows (with a x) ∙ sym n

faces-append : (d : ℕ) (rows fs gs : List (List ℕ)) → faces_out d rows (fs ++ gs) ≡ faces_out d rows fs ++ faces_out d rows gs
faces-append d rows fs gs = ap (map (λ (f : Flip). f.a)) (filter_map-append (flip_at d rows) fs gs) ∙ map-append (λ (f : Flip). f.a) (flips_at d rows fs) (flips_at d rows gs)

-- each label is above the last one, and fits
label_at : (q : ℕ → Bool) (xs labels : List ℕ) (i x : ℕ) → labels ≡ filter q xs → i < length labels → x ≡ get_or labels i 0 → q x ≡ true
label_at q xs labels i x is l at = second_so (has xs x) (q x) (sym (has-filter q xs x) ∙ ap (λ ls. has ls x) (sym is) ∙ ap (has labels) at ∙ has_place labels i l)

pub label_fits : (p n last : ℕ) (rows : List (List ℕ)) (a labels : List ℕ) (i x : ℕ) (r : Option (List ℕ)) → labels ≡ filter (comes_next p last) (used rows) → i < length labels → x ≡ get_or labels i 0 → n ≢ 0 → length a + n ≤ 8 → SomeIff r ((0 < x) × (length (with a x) ≤ 8)) (with a x) → IsSome r
label_fits p n last rows a labels i x r is l at some small w = is_some_of r (with a x) (some_is r (with a x) w (omega (arith, above), omega (arith, length_put_le x a, small, some)))
  where
    above : last < x
    above = let t : nat_lt last x ≡ true = first_so (nat_lt last x) (not (nat_eq x p)) (label_at (comes_next p last) (used rows) labels i x is l at) in grind (arith, nat_tests)

pub grows_small : (n x : ℕ) (a more : List ℕ) → more ≡ with a x → n ≢ 0 → length a + n ≤ 8 → length more + (n - 1) ≤ 8
grows_small n x a more m some small = omega (arith, ap length m, length_put_le x a, small, some)

pub rows_kept : (p x : ℕ) (rows near : List (List ℕ)) → near ≡ filter (λ r. has r x) rows → AreRows p rows → AreRows p near
rows_kept p x rows near is h = let P : List (List ℕ) → Type 0 = λ fs. AreRows p fs in subst P (sym is) (h.0, each_filter (IsRow p) (λ r. has r x) rows h.1)

pub rows_rise : (x : ℕ) (rows near : List (List ℕ)) → near ≡ filter (λ r. has r x) rows → IsStrictlySortedBy face_cmp rows → IsStrictlySortedBy face_cmp near
rows_rise x rows near is h = let P : List (List ℕ) → Type 0 = λ fs. IsStrictlySortedBy face_cmp fs in subst P (sym is) (IsStrictlySortedBy-filter face_cmp (λ r. has r x) rows h)

pub gathered_more : (d p n i x : ℕ) (rows near : List (List ℕ)) (a more : List ℕ) (labels : List ℕ) (start all next : List (List ℕ)) → over rows a ≡ rows → near ≡ filter (λ r. has r x) rows → more ≡ with a x → i < length labels → x ≡ get_or labels i 0
    → all ≡ start ++ faces_out d rows (flat_map (λ y. grown rows p n y (with a y)) (take i labels)) → next ≡ all ++ faces_out d near (grown near p n x more)
    → next ≡ start ++ faces_out d rows (flat_map (λ y. grown rows p n y (with a y)) (take (i + 1) labels))
gathered_more d p n i x rows near a more labels start all next e is m l at h s =
    let g : ℕ → List (List ℕ) = λ y. grown rows p n y (with a y) in
    let one : faces_out d near (grown near p n x more) ≡ faces_out d rows (g x) =
    ap (λ b. faces_out d near (grown near p n x b)) m
    ∙ ap (map (λ (f : Flip). f.a)) (grown_alike d near rows p n x (with a x) (all_over rows near a x (with a x) e is refl ∙ narrowed rows near a x e is)) in
    s
    ∙ (λ j. h j ++ one j)
    ∙ append_assoc start (faces_out d rows (flat_map g (take i labels))) (faces_out d rows (g x))
    ∙ ap (λ fs. start ++ fs) (sym (ap (λ xs. faces_out d rows (flat_map g xs)) (take_more labels i 0 l ∙ ap (λ y. take i labels ++ y ∷ []) (sym at))
    ∙ ap (faces_out d rows) (flat_map-append g (take i labels) (x ∷ []) ∙ ap (λ fs. flat_map g (take i labels) ++ fs) (append-nil (g x)))
    ∙ faces-append d rows (flat_map g (take i labels)) (g x)))

pub gathered_all : (d p n i last : ℕ) (rows : List (List ℕ)) (a labels : List ℕ) (start all : List (List ℕ)) → over rows a ≡ rows → labels ≡ filter (comes_next p last) (used rows) → n ≢ 0 → length labels ≤ i
    → all ≡ start ++ faces_out d rows (flat_map (λ y. grown rows p (n - 1) y (with a y)) (take i labels))
    → all ≡ start ++ faces_out d rows (grown rows p n last a)
gathered_all d p zero i last rows a labels start all e is some l h = absurd (some refl)
gathered_all d p (suc n) i last rows a labels start all e is some l h =
    h
    ∙ ap (λ xs. start ++ faces_out d rows (flat_map (λ y. grown rows p (suc n - 1) y (with a y)) xs)) (take_all i labels l ∙ is ∙ ap (λ fs. filter (comes_next p last) (used fs)) (sym e))
    ∙ ap (λ k. start ++ faces_out d rows (flat_map (λ y. grown rows p k y (with a y)) (next_labels rows p last a))) (let k : suc n - 1 ≡ n = omega arith in k)
