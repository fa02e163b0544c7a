-- The faces that have the vertex are the parts of the rows without it, with the vertex added; and how many they are.
use Rattle.std.proofs.Common.{◌≡◌, ◌⊎◌, inl, inr, ℕ, zero, suc, ◌+◌, ◌*◌, ◌^◌, ◌<◌, ◌≤◌, Bool, true, false, not, nat_eq, ◌||◌, ◌&&◌, List, [], ◌∷◌, ◌++◌, length, map, filter, sym, ◌∙◌, ap, refl, subst, arith, length-append}
use Rattle.std.specs.List.{AllByRecursion, list_any, flat_map}
use Rattle.std.specs.List.Sorted.{IsStrictlySortedBy}
use Rattle.std.specs.Cmp.{first_so, second_so}
use Rattle.std.specs.Cmp.Derive.{both_true}
use Rattle.std.specs.Cmp.Lexicographic.{pointwise, nat_list_cmp_total}
use Rattle.std.specs.Ordering.{nat_cmp, ordering_then}
use Rattle.std.specs.declared.cmp.Ordering.TheVariants.{Less, Greater}
use Rattle.std.proofs.lemmas.Bool.{cases_order}
use Rattle.std.proofs.lemmas.List.{length-map}
use Rattle.std.proofs.Math.Nat.{pow-suc}
use Rattle.std.proofs.lemmas.Cmp.{nat_cmp_total}
use Rattle.complex_core.specs.Labels.{has, with, without, face_cmp}
use Rattle.complex_core.specs.Rising.{rising}
use Rattle.complex_core.specs.Subsets.{subsets_of}
use Rattle.complex_core.proofs.Sets.{Above, above_head, above_tail, above_cons, sorted_none, sorted_put, sorted_rising}
use Rattle.complex_core.proofs.Faces.{cmp_less, cmp_equal, cmp_greater, put_before, put_after, with_new}
use Rattle.complex_core.proofs.Laws.{both_ways, nat_eq_is, nat_eq_same, has-with, has-without, or_left, or_right, holds_has, holds_each, listed, listed-append, listed-filter, listed-rising, same_lists, same_set_itself, length-without, sorted_without}
use Rattle.complex_core.proofs.SubsetLists.{two, clash, map_from, map_back, Chosen, chosen_is, chosen_from}
use Rattle.anneal_plan.specs.Faces.{IsRow, AreRows}
use Rattle.stars.specs.Candidates.{faces_at}
use Rattle.anneal_plan.proofs.FaceParts.{parts_of, IsPart, part_of, part_row, sorted_row}
use Rattle.complex_core.proofs.SetLists.{listed-flat_map, rising_length}
use Rattle.complex_core.proofs.Members.{with_back}

-- ---- adding the vertex keeps the order of sets of one size

less_heads : (x y : ℕ) (s t : List ℕ) → x < y → face_cmp (x ∷ s) (y ∷ t) ≡ Less
less_heads x y s t l = ap (λ r. ordering_then r (face_cmp s t)) (cmp_less x y l)

more_heads : (x y : ℕ) (s t : List ℕ) → y < x → face_cmp (x ∷ s) (y ∷ t) ≡ Greater
more_heads x y s t l = ap (λ r. ordering_then r (face_cmp s t)) (cmp_greater x y l)

same_heads : (x y : ℕ) (s t : List ℕ) → x ≡ y → face_cmp (x ∷ s) (y ∷ t) ≡ face_cmp s t
same_heads x y s t e = ap (λ r. ordering_then r (face_cmp s t)) (cmp_equal x y e)

-- where a label that isn't there goes: before the first one or behind it
abbrev Before : ℕ → ℕ → List ℕ → Type 0
Before p x s = (p < x) × (with (x ∷ s) p ≡ p ∷ x ∷ s)

abbrev Behind : ℕ → ℕ → List ℕ → Type 0
Behind p x s = (x < p) × (with (x ∷ s) p ≡ x ∷ with s p)

goes : (p x : ℕ) (s : List ℕ) → has (x ∷ s) p ≡ false → Before p x s ⊎ Behind p x s
goes p x s h = elim (cases_order p x) [
  | inl e ↦ clash (nat_eq x p) (ap (λ z. nat_eq x z) e ∙ nat_eq_same x) (first_false (nat_eq x p) (has s p) h)
  | inr (inl l) ↦ inl (l, put_before p x s l)
  | inr (inr l) ↦ inr (l, put_after p x s l)
]
  where
    first_false : (a b : Bool) → (a || b) ≡ false → a ≡ false
    first_false true b e = e
    first_false false b e = refl

not_there : (x p : ℕ) (s : List ℕ) → has (x ∷ s) p ≡ false → has s p ≡ false
not_there x p s h = second_false (nat_eq x p) (has s p) h
  where
    second_false : (a b : Bool) → (a || b) ≡ false → b ≡ false
    second_false true b e = cc
    second_false false b e = e

cmp_with : (p : ℕ) (s t : List ℕ) → length s ≡ length t → has s p ≡ false → has t p ≡ false → face_cmp (with s p) (with t p) ≡ face_cmp s t
cmp_with p [] [] e h g = same_heads p p [] [] refl
cmp_with p [] (y ∷ t) e h g = absurd (omega (arith, e))
cmp_with p (x ∷ s) [] e h g = absurd (omega (arith, e))
cmp_with p (x ∷ s) (y ∷ t) e h g =
    both (cmp_with p s t (let k : length s ≡ length t = omega (arith, e) in k) (not_there x p s h) (not_there y p t g)) (goes p x s h) (goes p y t g)
  where
    both : face_cmp (with s p) (with t p) ≡ face_cmp s t → Before p x s ⊎ Behind p x s → Before p y t ⊎ Behind p y t → face_cmp (with (x ∷ s) p) (with (y ∷ t) p) ≡ face_cmp (x ∷ s) (y ∷ t)
    both ih (inl a) (inl b) = (λ i. face_cmp (a.1 i) (b.1 i)) ∙ same_heads p p (x ∷ s) (y ∷ t) refl
    both ih (inl a) (inr b) = (λ i. face_cmp (a.1 i) (b.1 i)) ∙ more_heads p y (x ∷ s) (with t p) b.0 ∙ sym (more_heads x y s t (let l : y < x = omega (arith, a.0, b.0) in l))
    both ih (inr a) (inl b) = (λ i. face_cmp (a.1 i) (b.1 i)) ∙ less_heads x p (with s p) (y ∷ t) a.0 ∙ sym (less_heads x y s t (let l : x < y = omega (arith, a.0, b.0) in l))
    both ih (inr a) (inr b) = (λ i. face_cmp (a.1 i) (b.1 i)) ∙ ap (ordering_then (nat_cmp x y)) ih

above_with : (p n : ℕ) (s : List ℕ) (ts : List (List ℕ)) → IsPart p n s → AllByRecursion (IsPart p n) ts → Above face_cmp s ts → Above face_cmp (with s p) (map (λ t. with t p) ts)
above_with p n s [] h a l = tt
above_with p n s (t ∷ ts) h a l = (cmp_with p s t (h.size ∙ sym a.0.size) h.apart a.0.apart ∙ l.0, above_with p n s ts h a.1 l.1)

sorted_with : (p n : ℕ) (ts : List (List ℕ)) → AllByRecursion (IsPart p n) ts → IsStrictlySortedBy face_cmp ts → IsStrictlySortedBy face_cmp (map (λ t. with t p) ts)
sorted_with p n [] a r = sorted_none face_cmp
sorted_with p n (t ∷ ts) a r =
    above_cons face_cmp (with t p) (map (λ s. with s p) ts) (above_with p n t ts a.0 a.1 (above_head face_cmp t ts r)) (sorted_with p n ts a.1 (above_tail face_cmp t ts r))

-- ---- the subsets with the vertex, and those without it

row_parts : (p n : ℕ) (row s : List ℕ) → IsRow p row → (listed (subsets_of (suc n) row) s && has s p) ≡ listed (map (λ t. with t p) (subsets_of n (without row p))) s
row_parts p n row s h = both_ways (listed (subsets_of (suc n) row) s && has s p) (listed (map (λ t. with t p) (subsets_of n (without row p))) s) forth back
  where
    sorted : IsStrictlySortedBy nat_cmp row
    sorted = above_tail nat_cmp 0 row h.face.rising

    forth : (listed (subsets_of (suc n) row) s && has s p) ≡ true → listed (map (λ t. with t p) (subsets_of n (without row p))) s ≡ true
    forth e =
        let c : Chosen (suc n) row s = chosen_is (suc n) row s sorted (first_so (listed (subsets_of (suc n) row) s) (has s p) e) in
        let there : has s p ≡ true = second_so (listed (subsets_of (suc n) row) s) (has s p) e in
        let part : Chosen n (without row p) (without s p) = record {
          rises = sorted_without s p c.rises;
          part = holds_each (without row p) (without s p) (λ z t.
              let u : (has s z && not (nat_eq z p)) ≡ true = sym (has-without s p z) ∙ t in
              has-without row p z ∙ both_true (holds_has row s z c.part (first_so (has s z) (not (nat_eq z p)) u)) (second_so (has s z) (not (nat_eq z p)) u));
          size = let k : length (without s p) ≡ n = omega (arith, length-without s p c.rises there, c.size) in k;
        } in
        ap (listed (map (λ t. with t p) (subsets_of n (without row p)))) (sym (with_back s p c.rises there))
        ∙ map_from (λ t. with t p) (subsets_of n (without row p)) (without s p) (chosen_from n (without row p) (without s p) (sorted_row p row h) part)

    back : listed (map (λ t. with t p) (subsets_of n (without row p))) s ≡ true → (listed (subsets_of (suc n) row) s && has s p) ≡ true
    back e =
        let m : (t : List ℕ) × (listed (subsets_of n (without row p)) t ≡ true) × (s ≡ with t p) = map_back (λ t. with t p) (subsets_of n (without row p)) s e in
        let c : Chosen n (without row p) m.0 = chosen_is n (without row p) m.0 (sorted_row p row h) m.1 in
        let apart : has m.0 p ≡ false = (part_row p n row m.0 h m.1).apart in
        let whole : Chosen (suc n) row (with m.0 p) = record {
          rises = sorted_put nat_cmp_total p m.0 c.rises;
          part = holds_each row (with m.0 p) (λ z t. elim (two (nat_eq p z)) [
            | inl g ↦ ap (has row) (sym (nat_eq_is p z g)) ∙ h.held
            | inr g ↦ first_so (has row z) (not (nat_eq z p)) (sym (has-without row p z) ∙ holds_has (without row p) m.0 z c.part (sym (ap (λ b. b || has m.0 z) g) ∙ sym (has-with m.0 p z) ∙ t))
          ]);
          size = let k : length (with m.0 p) ≡ suc n = omega (arith, with_new m.0 p apart, c.size) in k;
        } in
        both_true
        (ap (listed (subsets_of (suc n) row)) m.2 ∙ chosen_from (suc n) row (with m.0 p) sorted whole)
        (ap (λ w. has w p) m.2 ∙ has-with m.0 p p ∙ or_left (nat_eq p p) (has m.0 p) (nat_eq_same p))

-- ---- all rows

map-flat_map : (p n : ℕ) (rows : List (List ℕ)) (s : List ℕ) → listed (map (λ t. with t p) (flat_map (λ row. subsets_of n (without row p)) rows)) s ≡ list_any (λ row. listed (map (λ t. with t p) (subsets_of n (without row p))) s) rows
map-flat_map p n [] s = refl
map-flat_map p n (row ∷ rows) s =
    ap (λ ts. listed ts s) (map-append (subsets_of n (without row p)) (flat_map (λ w. subsets_of n (without w p)) rows))
    ∙ listed-append (map (λ t. with t p) (subsets_of n (without row p))) (map (λ t. with t p) (flat_map (λ w. subsets_of n (without w p)) rows)) s
    ∙ ap (λ b. listed (map (λ t. with t p) (subsets_of n (without row p))) s || b) (map-flat_map p n rows s)
  where
    map-append : (xs ys : List (List ℕ)) → map (λ t. with t p) (xs ++ ys) ≡ map (λ t. with t p) xs ++ map (λ t. with t p) ys
    map-append [] ys = refl
    map-append (x ∷ xs) ys = ap (λ ts. with x p ∷ ts) (map-append xs ys)

rows_alike : (p n : ℕ) (rows : List (List ℕ)) (s : List ℕ) → AllByRecursion (IsRow p) rows → list_any (λ row. listed (filter (λ t. has t p) (subsets_of (suc n) row)) s) rows ≡ list_any (λ row. listed (map (λ t. with t p) (subsets_of n (without row p))) s) rows
rows_alike p n [] s h = refl
rows_alike p n (row ∷ rows) s h = λ i. (listed-filter (λ t. has t p) (subsets_of (suc n) row) s ∙ row_parts p n row s h.0) i || rows_alike p n rows s h.1 i

each_part : (p n : ℕ) (rows : List (List ℕ)) (ts : List (List ℕ)) → ((s : List ℕ) → listed ts s ≡ true → IsPart p n s) → AllByRecursion (IsPart p n) ts
each_part p n rows [] h = tt
each_part p n rows (t ∷ ts) h = (h t (or_left (pointwise nat_eq t t) (listed ts t) (same_set_itself t)), each_part p n rows ts (λ s u. h s (or_right (pointwise nat_eq t s) (listed ts s) u)))

-- a map of a list and of its rising list have the same members
listed-map-rising : (p : ℕ) (ks : List (List ℕ)) (s : List ℕ) → listed (map (λ t. with t p) (rising face_cmp ks)) s ≡ listed (map (λ t. with t p) ks) s
listed-map-rising p ks s = both_ways (listed (map (λ t. with t p) (rising face_cmp ks)) s) (listed (map (λ t. with t p) ks) s)
    (λ e. let m : (t : List ℕ) × (listed (rising face_cmp ks) t ≡ true) × (s ≡ with t p) = map_back (λ t. with t p) (rising face_cmp ks) s e in ap (listed (map (λ t. with t p) ks)) m.2 ∙ map_from (λ t. with t p) ks m.0 (sym (listed-rising ks m.0) ∙ m.1))
    (λ e. let m : (t : List ℕ) × (listed ks t ≡ true) × (s ≡ with t p) = map_back (λ t. with t p) ks s e in ap (listed (map (λ t. with t p) (rising face_cmp ks))) m.2 ∙ map_from (λ t. with t p) (rising face_cmp ks) m.0 (listed-rising ks m.0 ∙ m.1))

pub faces_are : (rows : List (List ℕ)) (p n : ℕ) → AreRows p rows → faces_at rows p (n + 1) ≡ map (λ s. with s p) (parts_of rows p n)
unfolding faces_at parts_of
faces_are rows p n h =
    let parts : List (List ℕ) = flat_map (λ row. subsets_of n (without row p)) rows in
    let wholes : List (List ℕ) = flat_map (λ row. filter (λ s. has s p) (subsets_of (n + 1) row)) rows in
    same_lists (rising face_cmp wholes) (map (λ s. with s p) (rising face_cmp parts))
    (sorted_rising nat_list_cmp_total wholes)
    (sorted_with p n (rising face_cmp parts) (each_part p n rows (rising face_cmp parts) (λ s. part_of p n rows s h)) (sorted_rising nat_list_cmp_total parts))
    (λ s. listed-rising wholes s
    ∙ listed-flat_map (λ row. filter (λ t. has t p) (subsets_of (n + 1) row)) rows s
    ∙ ap (λ k. list_any (λ row. listed (filter (λ t. has t p) (subsets_of k row)) s) rows) (let e : n + 1 ≡ suc n = omega arith in e)
    ∙ rows_alike p n rows s h.1
    ∙ sym (listed-map-rising p parts s ∙ map-flat_map p n rows s))

-- ---- how many there are

double : (k : ℕ) → 2 ^ suc k ≡ 2 ^ k + 2 ^ k
double k = omega (arith, pow-suc 2 k)

positive : (k : ℕ) → 1 ≤ 2 ^ k
positive zero = omega arith
positive (suc k) = omega (arith, positive k, double k)

-- at most half of all sets of the labels, where there is one
half : (n : ℕ) (xs : List ℕ) (x : ℕ) (k : ℕ) → length xs ≤ k → length (subsets_of n (x ∷ xs)) ≤ 2 ^ k
half zero xs x k h = omega (arith, positive k)
half (suc zero) [] x k h = omega (arith, positive k)
half (suc (suc n)) [] x k h = omega (arith, positive k)
half (suc n) (y ∷ xs) x zero h = absurd (omega (arith, h))
half (suc n) (y ∷ xs) x (suc k) h =
    omega (arith, length-append (map (λ s. x ∷ s) (subsets_of n (y ∷ xs))) (subsets_of (suc n) (y ∷ xs)), length-map (subsets_of n (y ∷ xs)) (λ s. x ∷ s), half n xs y k (let g : length xs ≤ k = omega (arith, h) in g), half (suc n) xs y k (let g : length xs ≤ k = omega (arith, h) in g), double k)

few_of_row : (n : ℕ) (xs : List ℕ) → length xs ≤ 6 → length (subsets_of n xs) ≤ 32
few_of_row zero [] h = omega arith
few_of_row (suc n) [] h = omega arith
few_of_row n (x ∷ xs) h = half n xs x 5 (let g : length xs ≤ 5 = omega (arith, h) in g)

few_of_rows : (p n : ℕ) (rows : List (List ℕ)) → AllByRecursion (IsRow p) rows → length (flat_map (λ row. subsets_of n (without row p)) rows) ≤ 32 * length rows
few_of_rows p n [] h = omega arith
few_of_rows p n (row ∷ rows) h =
    omega (
      arith,
      length-append (subsets_of n (without row p)) (flat_map (λ w. subsets_of n (without w p)) rows),
      few_of_rows p n rows h.1,
      few_of_row n (without row p) (let g : length (without row p) ≤ 6 = omega (arith, h.0.few, length-without row p (above_tail nat_cmp 0 row h.0.face.rising) h.0.held) in g),
    )

pub few_faces : (rows : List (List ℕ)) (p n : ℕ) → AreRows p rows → length (faces_at rows p (n + 1)) ≤ 32 * length rows
unfolding parts_of
few_faces rows p n h =
    let parts : List (List ℕ) = flat_map (λ row. subsets_of n (without row p)) rows in
    omega (arith, ap length (faces_are rows p n h), length-map (rising face_cmp parts) (λ s. with s p), rising_length parts, few_of_rows p n rows h.1)

sized_map : (p n : ℕ) (ts : List (List ℕ)) → AllByRecursion (IsPart p n) ts → AllByRecursion (λ a. length a ≡ n + 1) (map (λ s. with s p) ts)
sized_map p n [] h = tt
sized_map p n (t ∷ ts) h = (let e : length (with t p) ≡ n + 1 = omega (arith, with_new t p h.0.apart, h.0.size) in e, sized_map p n ts h.1)

-- each of them has that size
pub faces_sized : (rows : List (List ℕ)) (p n : ℕ) → AreRows p rows → AllByRecursion (λ a. length a ≡ n + 1) (faces_at rows p (n + 1))
faces_sized rows p n h =
    let P : List (List ℕ) → Type 0 = λ fs. AllByRecursion (λ a. length a ≡ n + 1) fs in
    subst P (sym (faces_are rows p n h)) (sized_map p n (parts_of rows p n) (each_part p n rows (parts_of rows p n) (λ s. part_of p n rows s h)))
