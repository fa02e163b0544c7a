-- The faces that grow one label after another have the flips of all faces of their size.
use Rattle.std.proofs.Common.{◌≡◌, inl, inr, ℕ, zero, suc, ◌+◌, Bool, true, false, not, nat_eq, nat_lt, ◌||◌, ◌&&◌, cond, Some, None, List, [], ◌∷◌, ◌++◌, length, map, filter, sym, ◌∙◌, ap, refl, arith}
use Rattle.std.specs.List.{AllByRecursion, flat_map, filter_map, list_any}
use Rattle.std.specs.List.Sorted.{IsStrictlySortedBy}
use Rattle.std.specs.Result.{is_ok}
use Rattle.std.specs.Cmp.{first_so, second_so}
use Rattle.std.specs.Cmp.Derive.{both_true}
use Rattle.std.specs.Cmp.Lexicographic.{pointwise}
use Rattle.std.specs.Ordering.{nat_cmp, ordering_then}
use Rattle.std.specs.declared.cmp.Ordering.TheVariants.{Less}
use Rattle.std.proofs.lemmas.Cmp.{nat_cmp_total}
use Rattle.std.proofs.lemmas.List.{map-append}
use Rattle.std.proofs.lemmas.List.Elements.{filter_map-append}
use Rattle.std.proofs.lemmas.List.Kept.{IsStrictlySortedBy-filter}
use Rattle.complex_core.specs.Labels.{has, holds, with, without, union, face_cmp}
use Rattle.complex_core.specs.Rising.{rising}
use Rattle.complex_core.specs.Complexes.{over, is_held}
use Rattle.complex_core.specs.Maps.{used}
use Rattle.complex_core.specs.Links.{less}
use Rattle.complex_core.specs.Subsets.{subsets_of}
use Rattle.complex_core.proofs.Sets.{Above, above_head, above_tail, above_cons, above_lower, sorted_none, sorted_put, sorted_rising}
use Rattle.complex_core.proofs.Faces.{cmp_less, less_cmp}
use Rattle.complex_core.proofs.Laws.{both_ways, both_false, nat_eq_is, nat_eq_same, has-with, has-without, has-union, or_left, or_right, holds_has, holds_each, listed, listed-append, same_lists, same_labels, same_set_itself, sorted_union}
use Rattle.complex_core.proofs.SubsetLists.{two, clash, chosen_is, chosen_from, above_map, above_both}
use Rattle.flip_rules.specs.Flips.{join_boundary, has_shape, same_sets}
use Rattle.flip_rules.proofs.Legal.{verdict}
use Rattle.stars.specs.Candidates.{flip_of, faces_at, flip_at}
use Rattle.anneal_plan.specs.Faces.{IsRow, AreRows, flips_at}
use Rattle.anneal_plan.specs.Growth.{comes_next, next_labels, grown}
use Rattle.anneal_plan.proofs.NextLabels.{in_any, has_next}
use Rattle.anneal_plan.proofs.FaceParts.{parts_of, IsPart, part_of, sorted_row, listed-parts_of, sorted_parts}
use Rattle.anneal_plan.proofs.AllFaces.{faces_are}
use Rattle.std.proofs.lemmas.Bool.{not-true, ltb-true, lt-ltb}
use Rattle.complex_core.proofs.Runs.{held_alike}
use Rattle.complex_core.proofs.SetLists.{listed-begun}

-- ---- one label more keeps the facets that have it

holds_with : (r a : List ℕ) (y : ℕ) → holds r (with a y) ≡ (has r y && holds r a)
holds_with r a y = both_ways (holds r (with a y)) (has r y && holds r a)
    (λ t. both_true
    (holds_has r (with a y) y t (has-with a y y ∙ or_left (nat_eq y y) (has a y) (nat_eq_same y)))
    (holds_each r a (λ z u. holds_has r (with a y) z t (has-with a y z ∙ or_right (nat_eq y z) (has a z) u))))
    (λ t. holds_each r (with a y) (λ z u. elim (two (nat_eq y z)) [
      | inl e ↦ ap (has r) (sym (nat_eq_is y z e)) ∙ first_so (has r y) (holds r a) t
      | inr f ↦ holds_has r a z (second_so (has r y) (holds r a) t) (sym (ap (λ b. b || has a z) f) ∙ sym (has-with a y z) ∙ u)
    ]))

pub over_with : (rows : List (List ℕ)) (a : List ℕ) (y : ℕ) → over rows (with a y) ≡ filter (λ r. has r y) (over rows a)
over_with [] a y = refl
over_with (r ∷ rows) a y =
    (λ i. cond (holds_with r a y i) (r ∷ over_with rows a y i) (over_with rows a y i))
    ∙ elim (holds r a) as (λ b. cond (has r y && b) (r ∷ filter (λ w. has w y) (over rows a)) (filter (λ w. has w y) (over rows a)) ≡ filter (λ w. has w y) (cond b (r ∷ over rows a) (over rows a))) [
      | true ↦ elim (has r y) as (λ c. cond (c && true) (r ∷ filter (λ w. has w y) (over rows a)) (filter (λ w. has w y) (over rows a)) ≡ cond c (r ∷ filter (λ w. has w y) (over rows a)) (filter (λ w. has w y) (over rows a))) [ true ↦ refl | false ↦ refl ]
      | false ↦ elim (has r y) as (λ c. cond (c && false) (r ∷ filter (λ w. has w y) (over rows a)) (filter (λ w. has w y) (over rows a)) ≡ filter (λ w. has w y) (over rows a)) [ true ↦ refl | false ↦ refl ]
    ]

-- ---- the facets over a face tell what it becomes, and its flip

flip_alike : (d : ℕ) (near rows : List (List ℕ)) (a : List ℕ) → over near a ≡ over rows a → flip_at d near a ≡ flip_at d rows a
flip_alike d near rows a e = λ i. cond
    (is_ok (verdict (has_shape d a (less (used (e i)) a)) (held_alike near rows a e i) (same_sets (e i) (rising face_cmp (join_boundary a (less (used (e i)) a)))) (is_held [] (less (used (e i)) a))))
    (Some (flip_of a (less (used (e i)) a)))
    None

flips-flat_map : (d : ℕ) (near rows : List (List ℕ)) (f g : ℕ → List (List ℕ)) (xs : List ℕ) → ((x : ℕ) → flips_at d near (f x) ≡ flips_at d rows (g x)) → flips_at d near (flat_map f xs) ≡ flips_at d rows (flat_map g xs)
flips-flat_map d near rows f g [] h = refl
flips-flat_map d near rows f g (x ∷ xs) h =
    filter_map-append (flip_at d near) (f x) (flat_map f xs)
    ∙ (λ i. h x i ++ flips-flat_map d near rows f g xs h i)
    ∙ sym (filter_map-append (flip_at d rows) (g x) (flat_map g xs))

pub grown_alike : (d : ℕ) (near rows : List (List ℕ)) (p n last : ℕ) (a : List ℕ) → over near a ≡ over rows a → flips_at d near (grown near p n last a) ≡ flips_at d rows (grown rows p n last a)
grown_alike d near rows p zero last a e = λ i. filter_map (λ _. flip_alike d near rows a e i) (a ∷ [])
grown_alike d near rows p (suc n) last a e =
    ap (λ fs. flips_at d near (flat_map (λ x. grown near p n x (with a x)) (filter (comes_next p last) (used fs)))) e
    ∙ flips-flat_map d near rows (λ x. grown near p n x (with a x)) (λ x. grown rows p n x (with a x)) (next_labels rows p last a)
    (λ x. grown_alike d near rows p n x (with a x) (over_with near a x ∙ ap (filter (λ r. has r x)) e ∙ sym (over_with rows a x)))

-- ---- the labels that a face grows by, rising

abbrev parts : List (List ℕ) → ℕ → ℕ → ℕ → List ℕ → List (List ℕ)
parts rows p zero last a = [] ∷ []
parts rows p (suc n) last a = flat_map (λ y. map (λ s. y ∷ s) (parts rows p n y (with a y))) (next_labels rows p last a)

map-begun : (a : List ℕ) (y : ℕ) (ss : List (List ℕ)) → map (union (with a y)) ss ≡ map (union a) (map (λ s. y ∷ s) ss)
map-begun a y [] = refl
map-begun a y (s ∷ ss) = ap (λ ts. union (with a y) s ∷ ts) (map-begun a y ss)

unions-flat_map : (a : List ℕ) (f g : ℕ → List (List ℕ)) (xs : List ℕ) → ((x : ℕ) → f x ≡ map (union (with a x)) (g x)) → flat_map f xs ≡ map (union a) (flat_map (λ y. map (λ s. y ∷ s) (g y)) xs)
unions-flat_map a f g [] h = refl
unions-flat_map a f g (x ∷ xs) h =
    (λ i. (h x ∙ map-begun a x (g x)) i ++ unions-flat_map a f g xs h i)
    ∙ sym (map-append (union a) (map (λ s. x ∷ s) (g x)) (flat_map (λ y. map (λ s. y ∷ s) (g y)) xs))

grown_parts : (rows : List (List ℕ)) (p n last : ℕ) (a : List ℕ) → grown rows p n last a ≡ map (union a) (parts rows p n last a)
grown_parts rows p zero last a = refl
grown_parts rows p (suc n) last a =
    unions-flat_map a (λ x. grown rows p n x (with a x)) (λ x. parts rows p n x (with a x)) (next_labels rows p last a) (λ x. grown_parts rows p n x (with a x))

-- ---- sets that are begun by rising labels rise

above_begun : (x y : ℕ) (s : List ℕ) (ts : List (List ℕ)) → nat_cmp x y ≡ Less → Above face_cmp (x ∷ s) (map (λ t. y ∷ t) ts)
above_begun x y s [] l = tt
above_begun x y s (t ∷ ts) l = (ap (λ r. ordering_then r (face_cmp s t)) l, above_begun x y s ts l)

above_all : (f : ℕ → List (List ℕ)) (x : ℕ) (s : List ℕ) (ys : List ℕ) → Above nat_cmp x ys → Above face_cmp (x ∷ s) (flat_map (λ y. map (λ t. y ∷ t) (f y)) ys)
above_all f x s [] a = tt
above_all f x s (y ∷ ys) a =
    above_both (x ∷ s) (map (λ t. y ∷ t) (f y)) (flat_map (λ z. map (λ t. z ∷ t) (f z)) ys) (above_begun x y s (f y) a.0) (above_all f x s ys a.1)

sorted_both : (x : ℕ) (ss ts : List (List ℕ)) → IsStrictlySortedBy face_cmp ss → IsStrictlySortedBy face_cmp ts → ((s : List ℕ) → Above face_cmp (x ∷ s) ts) → IsStrictlySortedBy face_cmp (map (λ s. x ∷ s) ss ++ ts)
sorted_both x [] ts r q a = q
sorted_both x (s ∷ ss) ts r q a =
    above_cons face_cmp (x ∷ s) (map (λ t. x ∷ t) ss ++ ts)
    (above_both (x ∷ s) (map (λ t. x ∷ t) ss) ts (above_map x s ss (above_head face_cmp s ss r)) (a s))
    (sorted_both x ss ts (above_tail face_cmp s ss r) q a)

sorted_begun : (f : ℕ → List (List ℕ)) (xs : List ℕ) → IsStrictlySortedBy nat_cmp xs → ((x : ℕ) → IsStrictlySortedBy face_cmp (f x)) → IsStrictlySortedBy face_cmp (flat_map (λ y. map (λ s. y ∷ s) (f y)) xs)
sorted_begun f [] r h = sorted_none face_cmp
sorted_begun f (x ∷ xs) r h =
    sorted_both x (f x) (flat_map (λ y. map (λ s. y ∷ s) (f y)) xs) (h x) (sorted_begun f xs (above_tail nat_cmp x xs r) h) (λ s. above_all f x s xs (above_head nat_cmp x xs r))

sorted_grown : (rows : List (List ℕ)) (p n last : ℕ) (a : List ℕ) → IsStrictlySortedBy face_cmp (parts rows p n last a)
sorted_grown rows p zero last a = above_cons face_cmp [] [] tt (sorted_none face_cmp)
sorted_grown rows p (suc n) last a =
    sorted_begun (λ y. parts rows p n y (with a y)) (next_labels rows p last a)
    (IsStrictlySortedBy-filter nat_cmp (comes_next p last) (used (over rows a)) (sorted_rising nat_cmp_total (flat_map (λ f. f) (over rows a))))
    (λ y. sorted_grown rows p n y (with a y))

-- ---- which labels come next

any_over : (rows : List (List ℕ)) (a : List ℕ) (z : ℕ) → in_any (over rows a) z ≡ list_any (λ r. holds r a && has r z) rows
any_over [] a z = refl
any_over (r ∷ rows) a z = elim (holds r a) as (λ b. in_any (cond b (r ∷ over rows a) (over rows a)) z ≡ ((b && has r z) || list_any (λ w. holds w a && has w z) rows)) [
  | true ↦ ap (λ b. has r z || b) (any_over rows a z)
  | false ↦ any_over rows a z
]

comes : (rows : List (List ℕ)) (p last : ℕ) (a : List ℕ) (z : ℕ) → has (next_labels rows p last a) z ≡ (list_any (λ r. holds r a && has r z) rows && comes_next p last z)
comes rows p last a z = has_next rows p last a z ∙ ap (λ b. b && comes_next p last z) (any_over rows a z)

-- ---- which sets are begun by some labels

listed-all : (f : ℕ → List (List ℕ)) (xs : List ℕ) (z : ℕ) (s : List ℕ) → listed (flat_map (λ y. map (λ t. y ∷ t) (f y)) xs) (z ∷ s) ≡ (has xs z && listed (f z) s)
listed-all f [] z s = refl
listed-all f (x ∷ xs) z s =
    listed-append (map (λ t. x ∷ t) (f x)) (flat_map (λ y. map (λ t. y ∷ t) (f y)) xs) (z ∷ s)
    ∙ (λ i. listed-begun x z s (f x) i || listed-all f xs z s i)
    ∙ one_tail (nat_eq x z) (listed (f x) s) (has xs z) (listed (f z) s) (λ t. ap (λ w. listed (f w) s) (nat_eq_is x z t))
  where
    one_tail : (a b c d : Bool) → (a ≡ true → b ≡ d) → ((a && b) || (c && d)) ≡ ((a || c) && d)
    one_tail false b c d h = refl
    one_tail true true c d h = h refl
    one_tail true false true d h = refl
    one_tail true false false d h = h refl

none_begun : (f : ℕ → List (List ℕ)) (xs : List ℕ) → listed (flat_map (λ y. map (λ t. y ∷ t) (f y)) xs) [] ≡ false
none_begun f [] = refl
none_begun f (x ∷ xs) = listed-append (map (λ t. x ∷ t) (f x)) (flat_map (λ y. map (λ t. y ∷ t) (f y)) xs) [] ∙ both_false (none x (f x)) (none_begun f xs)
  where
    none : (y : ℕ) (ts : List (List ℕ)) → listed (map (λ t. y ∷ t) ts) [] ≡ false
    none y [] = refl
    none y (t ∷ ts) = none y ts

-- ---- what the parts are

record Grows (rows : List (List ℕ)) (p n last : ℕ) (a s : List ℕ) : Type 0 where
  rises : IsStrictlySortedBy nat_cmp (last ∷ s)
  apart : has s p ≡ false
  size : length s ≡ n
  held : list_any (λ r. holds r a && holds r s) rows ≡ true

some_also : (q w : List ℕ → Bool) (rows : List (List ℕ)) → ((r : List ℕ) → q r ≡ true → w r ≡ true) → list_any q rows ≡ true → list_any w rows ≡ true
some_also q w [] h t = t
some_also q w (r ∷ rows) h t = elim (two (q r)) [
  | inl e ↦ or_left (w r) (list_any w rows) (h r e)
  | inr f ↦ or_right (w r) (list_any w rows) (some_also q w rows h (sym (ap (λ b. b || list_any q rows) f) ∙ t))
]

-- a face and one label more, held with other labels
one_more : (rows : List (List ℕ)) (a s : List ℕ) (z : ℕ) → list_any (λ r. holds r (with a z) && holds r s) rows ≡ list_any (λ r. holds r a && holds r (z ∷ s)) rows
one_more rows a s z = λ i. list_any (λ r. (ap (λ b. b && holds r s) (holds_with r a z) ∙ turned (has r z) (holds r a) (holds r s)) i) rows
  where
    turned : (x y w : Bool) → ((x && y) && w) ≡ (y && (x && w))
    turned true y w = refl
    turned false true w = refl
    turned false false w = refl

grows_is : (rows : List (List ℕ)) (p n last : ℕ) (a s : List ℕ) → is_held rows a ≡ true → listed (parts rows p n last a) s ≡ true → Grows rows p n last a s
grows_is rows p zero last a [] h t = record {
  rises = above_cons nat_cmp last [] tt (sorted_none nat_cmp);
  apart = refl;
  size = refl;
  held = some_also (λ r. holds r a) (λ r. holds r a && true) rows (λ r e. both_true e refl) h;
}
grows_is rows p zero last a (z ∷ s) h t = clash true refl (sym t)
grows_is rows p (suc n) last a [] h t = clash (listed (parts rows p (suc n) last a) []) t (none_begun (λ y. parts rows p n y (with a y)) (next_labels rows p last a))
grows_is rows p (suc n) last a (z ∷ s) h t =
    let more : Bool = listed (parts rows p n z (with a z)) s in
    let some : Bool = list_any (λ r. holds r a && has r z) rows in
    let u : (has (next_labels rows p last a) z && more) ≡ true = sym (listed-all (λ y. parts rows p n y (with a y)) (next_labels rows p last a) z s) ∙ t in
    let v : (some && comes_next p last z) ≡ true = sym (comes rows p last a z) ∙ first_so (has (next_labels rows p last a) z) more u in
    let c : (nat_lt last z && not (nat_eq z p)) ≡ true = second_so some (comes_next p last z) v in
    let above : nat_cmp last z ≡ Less = cmp_less last z (ltb-true last z (first_so (nat_lt last z) (not (nat_eq z p)) c)) in
    let there : is_held rows (with a z) ≡ true = some_also (λ r. holds r a && has r z) (λ r. holds r (with a z)) rows
    (λ r e. holds_with r a z ∙ both_true (second_so (holds r a) (has r z) e) (first_so (holds r a) (has r z) e))
    (first_so some (comes_next p last z) v) in
    let g : Grows rows p n z (with a z) s = grows_is rows p n z (with a z) s there (second_so (has (next_labels rows p last a) z) more u) in
    record {
      rises = above_cons nat_cmp last (z ∷ s) (above, above_lower nat_cmp_total last z s above (above_head nat_cmp z s g.rises)) g.rises;
      apart = both_false (not-true (nat_eq z p) (second_so (nat_lt last z) (not (nat_eq z p)) c)) g.apart;
      size = ap suc g.size;
      held = sym (one_more rows a s z) ∙ g.held;
    }

grows_from : (rows : List (List ℕ)) (p n last : ℕ) (a s : List ℕ) → Grows rows p n last a s → listed (parts rows p n last a) s ≡ true
grows_from rows p zero last a [] g = refl
grows_from rows p zero last a (z ∷ s) g = absurd (omega (arith, g.size))
grows_from rows p (suc n) last a [] g = absurd (omega (arith, g.size))
grows_from rows p (suc n) last a (z ∷ s) g =
    let later : Grows rows p n z (with a z) s = record {
      rises = above_tail nat_cmp last (z ∷ s) g.rises;
      apart = second_false (nat_eq z p) (has s p) g.apart;
      size = let k : length s ≡ n = omega (arith, g.size) in k;
      held = one_more rows a s z ∙ g.held;
    } in
    let some : list_any (λ r. holds r a && has r z) rows ≡ true = some_also (λ r. holds r a && holds r (z ∷ s)) (λ r. holds r a && has r z) rows
    (λ r e. both_true (first_so (holds r a) (holds r (z ∷ s)) e) (first_so (has r z) (holds r s) (second_so (holds r a) (holds r (z ∷ s)) e)))
    g.held in
    let above : nat_lt last z ≡ true = lt-ltb last z (less_cmp last z (above_head nat_cmp last (z ∷ s) g.rises).0) in
    listed-all (λ y. parts rows p n y (with a y)) (next_labels rows p last a) z s
    ∙ both_true
    (comes rows p last a z ∙ both_true some (both_true above (ap not (first_false (nat_eq z p) (has s p) g.apart))))
    (grows_from rows p n z (with a z) s later)
  where
    first_false : (x y : Bool) → (x || y) ≡ false → x ≡ false
    first_false true y e = e
    first_false false y e = refl

    second_false : (x y : Bool) → (x || y) ≡ false → y ≡ false
    second_false true y e = cc
    second_false false y e = e

-- ---- from the vertex they are the sets of the rows without it

row_alike : (p n : ℕ) (row s : List ℕ) → IsRow p row → IsStrictlySortedBy nat_cmp s → has s p ≡ false → length s ≡ n → (holds row (p ∷ []) && holds row s) ≡ listed (subsets_of n (without row p)) s
row_alike p n row s h r f size = both_ways (holds row (p ∷ []) && holds row s) (listed (subsets_of n (without row p)) s)
    (λ t. chosen_from n (without row p) s (sorted_row p row h) (record {
      rises = r;
      part = holds_each (without row p) s (λ z u.
          has-without row p z ∙ both_true (holds_has row s z (second_so (holds row (p ∷ [])) (holds row s) t) u) (ap not (other z u)));
      size = size;
    }))
    (λ t. both_true (both_true h.held refl) (holds_each row s (λ z u.
    first_so (has row z) (not (nat_eq z p)) (sym (has-without row p z) ∙ holds_has (without row p) s z (chosen_is n (without row p) s (sorted_row p row h) t).part u))))
  where
    other : (z : ℕ) → has s z ≡ true → nat_eq z p ≡ false
    other z u = elim (two (nat_eq z p)) [ inl e ↦ clash (has s z) u (ap (has s) (nat_eq_is z p e) ∙ f) | inr g ↦ g ]

rows_alike : (p n : ℕ) (rows : List (List ℕ)) (s : List ℕ) → AllByRecursion (IsRow p) rows → IsStrictlySortedBy nat_cmp s → has s p ≡ false → length s ≡ n → list_any (λ r. holds r (p ∷ []) && holds r s) rows ≡ list_any (λ row. listed (subsets_of n (without row p)) s) rows
rows_alike p n [] s h r f size = refl
rows_alike p n (row ∷ rows) s h r f size = λ i. row_alike p n row s h.0 r f size i || rows_alike p n rows s h.1 r f size i

parts_are : (rows : List (List ℕ)) (p n : ℕ) → AreRows p rows → is_held rows (p ∷ []) ≡ true → parts rows p n 0 (p ∷ []) ≡ parts_of rows p n
parts_are rows p n h there = same_lists (parts rows p n 0 (p ∷ [])) (parts_of rows p n) (sorted_grown rows p n 0 (p ∷ [])) (sorted_parts rows p n)
    (λ s. both_ways (listed (parts rows p n 0 (p ∷ [])) s) (listed (parts_of rows p n) s)
    (λ t. let g : Grows rows p n 0 (p ∷ []) s = grows_is rows p n 0 (p ∷ []) s there t in
    listed-parts_of rows p n s ∙ sym (rows_alike p n rows s h.1 (above_tail nat_cmp 0 s g.rises) g.apart g.size) ∙ g.held)
    (λ t. let c : IsPart p n s = part_of p n rows s h t in
    grows_from rows p n 0 (p ∷ []) s (record {
      rises = c.face.rising;
      apart = c.apart;
      size = c.size;
      held = rows_alike p n rows s h.1 (above_tail nat_cmp 0 s c.face.rising) c.apart c.size ∙ sym (listed-parts_of rows p n s) ∙ t;
    })))

-- ---- so the faces are all of their size

vertex_first : (p : ℕ) (s : List ℕ) → IsStrictlySortedBy nat_cmp s → union (p ∷ []) s ≡ with s p
vertex_first p s r = same_labels (union (p ∷ []) s) (with s p)
    (sorted_union (p ∷ []) s (above_cons nat_cmp p [] tt (sorted_none nat_cmp)))
    (sorted_put nat_cmp_total p s r)
    (λ z. has-union (p ∷ []) s z ∙ or_none (nat_eq p z) (has s z) ∙ sym (has-with s p z))
  where
    or_none : (a b : Bool) → ((a || false) || b) ≡ (a || b)
    or_none true b = refl
    or_none false b = refl

vertices_first : (p n : ℕ) (ts : List (List ℕ)) → ((s : List ℕ) → listed ts s ≡ true → IsPart p n s) → map (union (p ∷ [])) ts ≡ map (λ s. with s p) ts
vertices_first p n [] h = refl
vertices_first p n (t ∷ ts) h =
    let c : IsPart p n t = h t (or_left (pointwise nat_eq t t) (listed ts t) (same_set_itself t)) in
    (λ i. vertex_first p t (above_tail nat_cmp 0 t c.face.rising) i ∷ vertices_first p n ts (λ s u. h s (or_right (pointwise nat_eq t s) (listed ts s) u)) i)

all_grown : (rows : List (List ℕ)) (p n : ℕ) → AreRows p rows → is_held rows (p ∷ []) ≡ true → grown rows p n 0 (p ∷ []) ≡ faces_at rows p (n + 1)
all_grown rows p n h there =
    grown_parts rows p n 0 (p ∷ [])
    ∙ ap (map (union (p ∷ []))) (parts_are rows p n h there)
    ∙ vertices_first p n (parts_of rows p n) (λ s. part_of p n rows s h)
    ∙ sym (faces_are rows p n h)

none_grown : (d p n : ℕ) → flips_at d [] (grown [] p n 0 (p ∷ [])) ≡ flips_at d [] (faces_at [] p (n + 1))
unfolding faces_at
none_grown d p zero = refl
none_grown d p (suc n) = refl

pub grown_flips : (d : ℕ) (rows : List (List ℕ)) (p n : ℕ) → AreRows p rows → flips_at d rows (grown rows p n 0 (p ∷ [])) ≡ flips_at d rows (faces_at rows p (n + 1))
grown_flips d [] p n h = none_grown d p n
grown_flips d (row ∷ rows) p n h = ap (flips_at d (row ∷ rows)) (all_grown (row ∷ rows) p n h (or_left (holds row (p ∷ [])) (is_held rows (p ∷ [])) (both_true h.1.0.held refl)))
