-- Faces as lists of labels.
use Rattle.std.proofs.Common.{◌≡◌, ℕ, ◌+◌, ◌<◌, ◌≤◌, zero, suc, inl, inr, get_or, Result, Ok, Err, Bool, true, false, not, nat_eq, cond, ◌||◌, List, [], ◌∷◌, ◌++◌, length, take, drop, sym, ◌∙◌, ap, refl, subst, arith, length-append, append_assoc}
use Rattle.std.specs.List.{filter, insert, remove}
use Rattle.std.specs.List.Sorted.{IsStrictlySortedBy}
use Rattle.std.specs.Ordering.{nat_cmp, match_ordering, eq_by_cmp}
use Rattle.std.specs.declared.cmp.Ordering.TheVariants.{Less, Equal, Greater}
use Rattle.std.proofs.lemmas.Cmp.{nat_cmp_total}
use Rattle.std.proofs.lemmas.Bool.Decides.{nat_tests}
use Rattle.std.specs.Result.{MatchResult}
use Rattle.std.specs.List.Sorted.{IsBinarySearchResult}
use Rattle.std.proofs.lemmas.List.Edits.{length-insert}
use Rattle.std.proofs.lemmas.List.Sorted.{searched}
use Rattle.std.proofs.lemmas.Bool.{cases_lt}
use Rattle.std.proofs.lemmas.Map.Keys.{Less-from_sorted}
use Rattle.complex_core.specs.Rising.{put}
use Rattle.complex_core.specs.Labels.{IsFace, IsRising, has, with, without, union}
use Rattle.complex_core.proofs.Searching.{Stands, Missing, searched_for}
use Rattle.complex_core.proofs.Sets.{sorted_put, sorted_push, sorted_front, sorted_none, above_cons, above_head, above_tail, Above, last, last_below, length-put, length-put_new, among}

pub cmp_less : (x y : ℕ) → x < y → nat_cmp x y ≡ Less
cmp_less x y h = grind (arith, nat_tests)

pub cmp_greater : (x y : ℕ) → y < x → nat_cmp x y ≡ Greater
cmp_greater x y h = grind (arith, nat_tests)

pub cmp_equal : (x y : ℕ) → x ≡ y → nat_cmp x y ≡ Equal
cmp_equal x y h = grind (arith, nat_tests)

pub less_cmp : (x y : ℕ) → nat_cmp x y ≡ Less → x < y
less_cmp x y h = grind (arith, nat_tests)

pub equal_cmp : (x y : ℕ) → nat_cmp x y ≡ Equal → x ≡ y
equal_cmp x y h = grind (arith, nat_tests)

-- where a label goes
pub put_before : (x y : ℕ) (ys : List ℕ) → x < y → put nat_cmp x (y ∷ ys) ≡ x ∷ y ∷ ys
put_before x y ys h = ap (λ r. match_ordering r (x ∷ y ∷ ys) (y ∷ ys) (y ∷ put nat_cmp x ys)) (cmp_less x y h)

pub put_after : (x y : ℕ) (ys : List ℕ) → y < x → put nat_cmp x (y ∷ ys) ≡ y ∷ put nat_cmp x ys
put_after x y ys h = ap (λ r. match_ordering r (x ∷ y ∷ ys) (y ∷ ys) (y ∷ put nat_cmp x ys)) (cmp_greater x y h)

pub none_is_face : IsFace []
none_is_face = record { few = omega arith; rising = above_cons nat_cmp 0 [] tt (sorted_none nat_cmp) }

pub face_front : (xs ys : List ℕ) → IsFace (xs ++ ys) → IsFace xs
face_front xs ys h = record { few = omega (arith, h.few, length-append xs ys); rising = sorted_front nat_cmp (0 ∷ xs) ys h.rising }

pub face_put : (x : ℕ) (xs : List ℕ) → IsFace xs → 0 < x → length (put nat_cmp x xs) ≤ 8 → IsFace (put nat_cmp x xs)
face_put x xs h pos few = record {
  few = few;
  rising = let P : List ℕ → Type 0 = λ ys. IsStrictlySortedBy nat_cmp ys in subst P (put_after x 0 xs pos) (sorted_put nat_cmp_total x (0 ∷ xs) h.rising);
}

pub face_push : (xs : List ℕ) (x : ℕ) → IsFace xs → last 0 xs < x → length xs < 8 → IsFace (xs ++ x ∷ [])
face_push xs x h l few = record {
  few = omega (arith, length-append xs (x ∷ []));
  rising = sorted_push nat_cmp_total 0 xs x h.rising (cmp_less _ _ l);
}

above_filter : (p : ℕ → Bool) (low : ℕ) (xs : List ℕ) → Above nat_cmp low xs → Above nat_cmp low (filter p xs)
above_filter p low [] a = tt
above_filter p low (x ∷ xs) a = elim (p x) as (λ b. Above nat_cmp low (cond b (x ∷ filter p xs) (filter p xs))) [ true ↦ (a.0, above_filter p low xs a.1) | false ↦ above_filter p low xs a.1 ]

sorted_filter : (p : ℕ → Bool) (low : ℕ) (xs : List ℕ) → IsStrictlySortedBy nat_cmp (low ∷ xs) → IsStrictlySortedBy nat_cmp (low ∷ filter p xs)
sorted_filter p low [] s = s
sorted_filter p low (x ∷ xs) s =
    let t : IsStrictlySortedBy nat_cmp (x ∷ filter p xs) = sorted_filter p x xs (above_tail nat_cmp low (x ∷ xs) s) in
    let a : Above nat_cmp low (x ∷ xs) = above_head nat_cmp low (x ∷ xs) s in
    elim (p x) as (λ b. IsStrictlySortedBy nat_cmp (low ∷ cond b (x ∷ filter p xs) (filter p xs))) [
      | true ↦ above_cons nat_cmp low (x ∷ filter p xs) (a.0, above_filter p low xs a.1) t
      | false ↦ above_cons nat_cmp low (filter p xs) (above_filter p low xs a.1) (above_tail nat_cmp x (filter p xs) t)
    ]

pub short_filter : (p : ℕ → Bool) (xs : List ℕ) → length (filter p xs) ≤ length xs
short_filter p [] = omega arith
short_filter p (x ∷ xs) = elim (p x) as (λ b. length (cond b (x ∷ filter p xs) (filter p xs)) ≤ length (x ∷ xs)) [ true ↦ omega (arith, short_filter p xs) | false ↦ omega (arith, short_filter p xs) ]

pub face_filter : (p : ℕ → Bool) (xs : List ℕ) → IsFace xs → IsFace (filter p xs)
face_filter p xs h = record { few = omega (arith, h.few, short_filter p xs); rising = sorted_filter p 0 xs h.rising }

pub length-union : (xs ys : List ℕ) → length xs ≤ length (union xs ys)
length-union xs [] = omega arith
length-union xs (y ∷ ys) = omega (arith, length-put nat_cmp y xs, length-union (put nat_cmp y xs) ys)

-- the tests for a label
pub among-has : (x : ℕ) (xs : List ℕ) → among nat_cmp x xs ≡ has xs x
among-has x [] = refl
among-has x (y ∷ ys) = let h : among nat_cmp x ys ≡ has ys x = among-has x ys in let e : eq_by_cmp nat_cmp x y ≡ nat_eq y x = grind (arith, nat_tests) in λ i. e i || h i

pub with_new : (xs : List ℕ) (x : ℕ) → has xs x ≡ false → length (with xs x) ≡ length xs + 1
with_new xs x t = length-put_new nat_cmp x xs (among-has x xs ∙ t)

-- what is made so far, and the next label
pub face_next : (all xs ys : List ℕ) (x : ℕ) → IsFace all → all ≡ xs ++ x ∷ ys → IsFace (xs ++ x ∷ [])
face_next all xs ys x h e = face_front (xs ++ x ∷ []) ys (let P : List ℕ → Type 0 = λ zs. IsFace zs in subst P (e ∙ sym (append_assoc xs (x ∷ []) ys)) h)

-- the element at a position, and what stands around it
pub around : (xs : List ℕ) (i d : ℕ) → i < length xs → xs ≡ take i xs ++ get_or xs i d ∷ drop (i + 1) xs
around [] i d h = absurd (omega (arith, h))
around (x ∷ xs) zero d h = refl
around (x ∷ xs) (suc i) d h = let e : suc i + 1 ≡ suc (i + 1) = omega arith in rw e (ap (λ ys. x ∷ ys) (around xs i d (omega arith)))

pub face_same : (xs ys : List ℕ) → xs ≡ ys → IsFace xs → IsFace ys
face_same xs ys e h = let P : List ℕ → Type 0 = λ zs. IsFace zs in subst P e h

-- a label that is found at a position
pub record Found (xs : List ℕ) (x at : ℕ) : Type 0 where
  pub inside : at < length xs
  pub same : with xs x ≡ xs
  pub removed : remove xs at ≡ without xs x

-- a label that goes to a position
pub record Placed (xs : List ℕ) (x at : ℕ) : Type 0 where
  pub few : at ≤ length xs
  pub more : length (with xs x) ≡ length xs + 1
  pub inserted : insert xs at x ≡ with xs x
  pub same : without xs x ≡ xs

pub rises_by_place : (xs : List ℕ) → IsFace xs → (i j : ℕ) → i ≤ j → j < length xs → get_or xs i 0 ≤ get_or xs j 0
rises_by_place xs h i j le l = elim (cases_lt i j) [
  | inl lt ↦ let s : nat_cmp (get_or xs i 0) (get_or xs j 0) ≡ Less = Less-from_sorted nat_cmp xs i j 0 (above_tail nat_cmp 0 xs h.rising) lt l in omega (arith, less_cmp (get_or xs i 0) (get_or xs j 0) s)
  | inr ge ↦ let e : i ≡ j = omega arith in rw e (omega arith)
]

but_by_cmp : (xs : List ℕ) (x : ℕ) → filter (λ y. not (eq_by_cmp nat_cmp y x)) xs ≡ without xs x
but_by_cmp xs x = let same : (y : ℕ) → eq_by_cmp nat_cmp y x ≡ nat_eq y x = λ y. grind (arith, nat_tests) in ap (λ p. filter p xs) (λ i y. not (same y i))

searched_for_label : (xs : List ℕ) (x : ℕ) (r : Result ℕ ℕ) → IsFace xs → IsBinarySearchResult (λ y. nat_cmp y x) xs r → MatchResult r (Found xs x) (Placed xs x)
searched_for_label xs x (Ok i) h s =
    let t : (i < length xs) × (get_or xs i 0 ≡ x) = searched xs x (Ok i) s (rises_by_place xs h) in
    let r : Stands nat_cmp xs x i = searched_for nat_cmp_total equal_cmp xs x (Ok i) (above_tail nat_cmp 0 xs h.rising) t.0 s in
    record { inside = t.0; same = r.same; removed = r.removed ∙ but_by_cmp xs x }
searched_for_label xs x (Err at) h s =
    let t : (at ≤ length xs) × ((k : ℕ) → k < at → get_or xs k 0 < x) × ((k : ℕ) → at ≤ k → k < length xs → x < get_or xs k 0) = searched xs x (Err at) s (rises_by_place xs h) in
    let r : Missing nat_cmp xs x at = searched_for nat_cmp_total equal_cmp xs x (Err at) (above_tail nat_cmp 0 xs h.rising) t.0 s in
    record { few = t.0; more = omega (arith, sym (ap length r.inserted), length-insert xs at x t.0); inserted = r.inserted; same = sym (but_by_cmp xs x) ∙ r.same }

-- what a search over the labels of a face says, ys being the slice that shows them
pub label_searched : (xs ys : List ℕ) (x : ℕ) (r : Result ℕ ℕ) → ys ≡ xs → IsFace xs → IsBinarySearchResult (λ y. nat_cmp y x) ys r → MatchResult r (Found xs x) (Placed xs x)
label_searched xs ys x r e h s = let P : List ℕ → Type 0 = λ zs. IsBinarySearchResult (λ y. nat_cmp y x) zs r in searched_for_label xs x r h (subst P e s)

pub face_insert : (xs : List ℕ) (x at : ℕ) → IsFace xs → Placed xs x at → 0 < x → length xs < 8 → IsFace (insert xs at x)
face_insert xs x at h p pos few = face_same (with xs x) (insert xs at x) (sym p.inserted) (face_put x xs h pos (omega (arith, p.more)))

pub face_positive : (xs : List ℕ) (i : ℕ) → IsFace xs → i < length xs → 0 < get_or xs i 0
face_positive xs i h l = less_cmp _ _ (Less-from_sorted nat_cmp (0 ∷ xs) 0 (suc i) 0 h.rising (omega arith) (omega arith))

pub rising_last : (xs : List ℕ) (x : ℕ) → IsRising (xs ++ x ∷ []) → last 0 xs < x
rising_last xs x s = less_cmp (last 0 xs) x (last_below nat_cmp 0 xs x s)

pub drop_next : (xs : List ℕ) (i d : ℕ) → i < length xs → drop i xs ≡ get_or xs i d ∷ drop (i + 1) xs
drop_next [] i d h = absurd (omega (arith, h))
drop_next (x ∷ xs) zero d h = refl
drop_next (x ∷ xs) (suc i) d h = let e : suc i + 1 ≡ suc (i + 1) = omega arith in rw e (drop_next xs i d (omega arith))

-- a union that is too long already
pub union_long : (xs ys all : List ℕ) (i : ℕ) → union xs ys ≡ union all (drop i ys) → i < length ys → length (union xs ys) ≤ 8 → length (with all (get_or ys i 0)) ≤ 8
union_long xs ys all i e h few = omega (arith, few, ap length e, ap (λ zs. length (union all zs)) (drop_next ys i 0 h), length-union (with all (get_or ys i 0)) (drop (i + 1) ys))
