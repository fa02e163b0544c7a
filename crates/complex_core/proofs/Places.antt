-- Labels numbered from 1, and the way back.
use Rattle.std.proofs.Common.{◌≡◌, ℕ, ◌+◌, ◌-◌, ◌<◌, ◌≤◌, zero, suc, get_or, true, false, nat_eq, cond, ◌||◌, List, [], ◌∷◌, ◌++◌, length, take, sym, ◌∙◌, ap, refl, subst, arith, inl, inr}
use Rattle.std.specs.List.Sorted.{IsStrictlySortedBy}
use Rattle.std.specs.Ordering.{nat_cmp, ordering_then}
use Rattle.std.specs.declared.cmp.Ordering.TheVariants.{Less}
use Rattle.std.proofs.lemmas.Bool.{cases_lt}
use Rattle.std.proofs.lemmas.Bool.Decides.{nat_tests}
use Rattle.std.proofs.lemmas.Cmp.{nat_cmp_total}
use Rattle.std.proofs.lemmas.List.{take_more, length-take}
use Rattle.complex_core.specs.Labels.{IsRising, has}
use Rattle.complex_core.specs.Rising.{rising}
use Rattle.complex_core.specs.Maps.{IsMap, Differ, ArePositive, pair_cmp, takes, reaches, turned, at, greatest, next_after, numbered}
use Rattle.complex_core.proofs.Sets.{Above, above_cons, above_head, above_tail, above_lower, sorted_none, last}
use Rattle.complex_core.proofs.Searching.{rising_own}
use Rattle.complex_core.proofs.Faces.{cmp_less, less_cmp}
use Rattle.complex_core.proofs.Laws.{above_not, both_false, nat_eq_is, nat_eq_same, or_left, or_right}
use Rattle.complex_core.proofs.Pairs.{pair_total, pair_exact, takes-turned, reaches-turned}
use Rattle.complex_core.proofs.Images.{reaches_at}

-- ---- numbered labels are a map

takes_lower : (j k : ℕ) (xs : List ℕ) → j < k → takes (numbered k xs) j ≡ false
takes_lower j k [] h = refl
takes_lower j k (x ∷ xs) h = let other : nat_eq k j ≡ false = grind (arith, nat_tests) in both_false other (takes_lower j (k + 1) xs (omega arith))

pub reaches-numbered : (k : ℕ) (xs : List ℕ) (y : ℕ) → reaches (numbered k xs) y ≡ has xs y
reaches-numbered k [] y = refl
reaches-numbered k (x ∷ xs) y = ap (λ b. nat_eq x y || b) (reaches-numbered (k + 1) xs y)

positive_numbered : (k : ℕ) (xs : List ℕ) → 0 < k → Above nat_cmp 0 xs → ArePositive (numbered k xs)
positive_numbered k [] h a = tt
positive_numbered k (x ∷ xs) h a = ((h, less_cmp 0 x a.0), positive_numbered (k + 1) xs (omega arith) a.1)

differ_numbered : (k : ℕ) (xs : List ℕ) → IsStrictlySortedBy nat_cmp xs → Differ (numbered k xs)
differ_numbered k [] s = tt
differ_numbered k (x ∷ xs) s = (
  takes_lower k (k + 1) xs (omega arith),
  reaches-numbered (k + 1) xs x ∙ above_not x xs (above_head nat_cmp x xs s),
  differ_numbered (k + 1) xs (above_tail nat_cmp x xs s),
)

below_numbered : (j y k : ℕ) (xs : List ℕ) → j < k → Above pair_cmp (j, y) (numbered k xs)
below_numbered j y k [] h = tt
below_numbered j y k (x ∷ xs) h = (ap (λ r. ordering_then r (nat_cmp y x)) (cmp_less j k h), below_numbered j y (k + 1) xs (omega arith))

rising_numbered : (k : ℕ) (xs : List ℕ) → IsStrictlySortedBy pair_cmp (numbered k xs)
rising_numbered k [] = sorted_none pair_cmp
rising_numbered k (x ∷ xs) = above_cons pair_cmp (k, x) (numbered (k + 1) xs) (below_numbered k x (k + 1) xs (omega arith)) (rising_numbered (k + 1) xs)

pub numbered_map : (xs : List ℕ) → IsRising xs → IsMap (numbered 1 xs)
numbered_map xs s = record {
  positive = positive_numbered 1 xs (omega arith) (above_head nat_cmp 0 xs s);
  rising = rising_numbered 1 xs;
  differ = differ_numbered 1 xs (above_tail nat_cmp 0 xs s);
}

-- ---- made label by label

pub numbered_push : (k : ℕ) (xs : List ℕ) (x : ℕ) → numbered k (xs ++ x ∷ []) ≡ numbered k xs ++ (k + length xs, x) ∷ []
numbered_push k [] x = let e : k ≡ k + 0 = omega arith in λ i. (e i, x) ∷ []
numbered_push k (y ∷ ys) x = let e : k + 1 + length ys ≡ k + length (y ∷ ys) = omega arith in ap (λ ps. (k, y) ∷ ps) (numbered_push (k + 1) ys x ∙ ap (λ n. numbered (k + 1) ys ++ (n, x) ∷ []) e)

pub numbered_next : (xs : List ℕ) (i d : ℕ) → i < length xs → numbered 1 (take (i + 1) xs) ≡ numbered 1 (take i xs) ++ (i + 1, get_or xs i d) ∷ []
numbered_next xs i d l =
    let e : 1 + length (take i xs) ≡ i + 1 = omega (arith, length-take i xs) in
    ap (numbered 1) (take_more xs i d l) ∙ numbered_push 1 (take i xs) (get_or xs i d) ∙ ap (λ n. numbered 1 (take i xs) ++ (n, get_or xs i d) ∷ []) e

-- a label is at least its number
pub at_least_place : (low : ℕ) (xs : List ℕ) (i : ℕ) → IsStrictlySortedBy nat_cmp (low ∷ xs) → i < length xs → low + i + 1 ≤ get_or xs i 0
at_least_place low [] i s l = absurd (omega (arith, l))
at_least_place low (x ∷ xs) zero s l = omega (arith, less_cmp low x (above_head nat_cmp low (x ∷ xs) s).0)
at_least_place low (x ∷ xs) (suc i) s l = omega (arith, less_cmp low x (above_head nat_cmp low (x ∷ xs) s).0, at_least_place x xs i (above_tail nat_cmp low (x ∷ xs) s) (omega arith))

-- ---- spare labels above the greatest

pub next_after_push : (n i : ℕ) → next_after n (i + 1) ≡ next_after n i ++ (n + i + 1) ∷ []
next_after_push n i = let e : i + 1 ≡ suc i = omega arith in rw e (pushed n i)
  where
    pushed : (n i : ℕ) → next_after n (suc i) ≡ next_after n i ++ (n + i + 1) ∷ []
    pushed n zero = let e : n + 1 ≡ n + 0 + 1 = omega arith in λ j. e j ∷ []
    pushed n (suc i) = let e : n + 1 + i + 1 ≡ n + suc i + 1 = omega arith in ap (λ xs. (n + 1) ∷ xs) (pushed (n + 1) i ∙ ap (λ m. next_after (n + 1) i ++ m ∷ []) e)

above_next : (low n room : ℕ) → low ≤ n → Above nat_cmp low (next_after n room)
above_next low n zero h = tt
above_next low n (suc room) h = (cmp_less low (n + 1) (omega arith), above_next low (n + 1) room (omega arith))

sorted_next : (n room : ℕ) → IsStrictlySortedBy nat_cmp (n ∷ next_after n room)
sorted_next n zero = above_cons nat_cmp n [] tt (sorted_none nat_cmp)
sorted_next n (suc room) = above_cons nat_cmp n (next_after n (suc room)) (above_next n n (suc room) (omega arith)) (sorted_next (n + 1) room)

rising_spare_last : (low : ℕ) (xs : List ℕ) (room : ℕ) → IsStrictlySortedBy nat_cmp (low ∷ xs) → IsStrictlySortedBy nat_cmp (low ∷ xs ++ next_after (last low xs) room)
rising_spare_last low [] room s = sorted_next low room
rising_spare_last low (x ∷ xs) room s =
    let rest : IsStrictlySortedBy nat_cmp (x ∷ xs ++ next_after (last x xs) room) = rising_spare_last x xs room (above_tail nat_cmp low (x ∷ xs) s) in
    let first : nat_cmp low x ≡ Less = (above_head nat_cmp low (x ∷ xs) s).0 in
    above_cons nat_cmp low (x ∷ xs ++ next_after (last x xs) room) (first, above_lower nat_cmp_total low x (xs ++ next_after (last x xs) room) first (above_head nat_cmp x (xs ++ next_after (last x xs) room) rest)) rest

greatest_last : (low : ℕ) (xs : List ℕ) → get_or (low ∷ xs) (length xs) 0 ≡ last low xs
greatest_last low [] = refl
greatest_last low (x ∷ xs) = greatest_last x xs

greatest_is : (xs : List ℕ) → greatest xs ≡ last 0 xs
greatest_is [] = refl
greatest_is (x ∷ xs) = let e : length (x ∷ xs) - 1 ≡ length xs = omega arith in ap (λ n. get_or (x ∷ xs) n 0) e ∙ greatest_last x xs

pub rising_spare : (xs : List ℕ) (room : ℕ) → IsRising xs → IsRising (xs ++ next_after (greatest xs) room)
rising_spare xs room s = let P : ℕ → Type 0 = λ n. IsRising (xs ++ next_after n room) in subst P (sym (greatest_is xs)) (rising_spare_last 0 xs room s)

-- ---- the way back

below_turned : (y j k : ℕ) (xs : List ℕ) → Above nat_cmp y xs → Above pair_cmp (y, j) (turned (numbered k xs))
below_turned y j k [] a = tt
below_turned y j k (x ∷ xs) a = (ap (λ r. ordering_then r (nat_cmp j k)) a.0, below_turned y j (k + 1) xs a.1)

rising_turned : (k : ℕ) (xs : List ℕ) → IsStrictlySortedBy nat_cmp xs → IsStrictlySortedBy pair_cmp (turned (numbered k xs))
rising_turned k [] s = sorted_none pair_cmp
rising_turned k (x ∷ xs) s = above_cons pair_cmp (x, k) (turned (numbered (k + 1) xs)) (below_turned x k (k + 1) xs (above_head nat_cmp x xs s)) (rising_turned (k + 1) xs (above_tail nat_cmp x xs s))

pub turned_own : (xs : List ℕ) → IsRising xs → rising pair_cmp (turned (numbered 1 xs)) ≡ turned (numbered 1 xs)
turned_own xs s = rising_own pair_total pair_exact (turned (numbered 1 xs)) (rising_turned 1 xs (above_tail nat_cmp 0 xs s))

pub other_key : (ps : List (ℕ × ℕ)) (x y : ℕ) → takes ps x ≡ false → takes ps y ≡ true → nat_eq x y ≡ false
other_key ps x y f t = elim (nat_eq x y) as (λ b. nat_eq x y ≡ b → b ≡ false) [
  | true ↦ λ e. sym t ∙ ap (takes ps) (sym (nat_eq_is x y e)) ∙ f
  | false ↦ λ _. refl
] refl

-- there and back
pub at_back : (ps : List (ℕ × ℕ)) (y : ℕ) → Differ ps → reaches ps y ≡ true → at ps (at (turned ps) y) ≡ y
at_back [] y d r = let e : false ≡ true = r in cc
at_back (p ∷ ps) y d r =
    elim (nat_eq p.1 y) as (λ b. nat_eq p.1 y ≡ b → (b || reaches ps y) ≡ true → at (p ∷ ps) (cond b p.0 (at (turned ps) y)) ≡ y) [
      | true ↦ λ e _. ap (λ b. cond b p.1 (at ps p.0)) (nat_eq_same p.0) ∙ nat_eq_is p.1 y e
      | false ↦ λ _ s.
          let z = at (turned ps) y in
          let there : takes ps z ≡ true = sym (reaches-turned ps z) ∙ reaches_at (turned ps) y (takes-turned ps y ∙ s) in
          ap (λ b. cond b p.1 (at ps z)) (other_key ps p.0 z d.0 there) ∙ at_back ps y d.2 s
    ] refl r

-- the position that a label has is taken
pub place_taken : (ps : List (ℕ × ℕ)) (y : ℕ) → reaches ps y ≡ true → takes ps (at (turned ps) y) ≡ true
place_taken ps y r = sym (reaches-turned ps (at (turned ps) y)) ∙ reaches_at (turned ps) y (takes-turned ps y ∙ r)

-- ---- how many places there are, and that each has a name

pub length_numbered : (k : ℕ) (xs : List ℕ) → length (numbered k xs) ≡ length xs
length_numbered k [] = refl
length_numbered k (x ∷ xs) = let e : length (numbered (k + 1) xs) ≡ length xs = length_numbered (k + 1) xs in omega (arith, e)

pub length_next : (n room : ℕ) → length (next_after n room) ≡ room
length_next n zero = refl
length_next n (suc room) = let e : length (next_after (n + 1) room) ≡ room = length_next (n + 1) room in omega (arith, e)

pub few_used : (xs : List ℕ) → IsRising xs → length xs ≤ greatest xs
few_used [] s = omega arith
few_used (x ∷ xs) s = let l : 0 + (length (x ∷ xs) - 1) + 1 ≤ get_or (x ∷ xs) (length (x ∷ xs) - 1) 0 = at_least_place 0 (x ∷ xs) (length (x ∷ xs) - 1) s (omega arith) in omega (arith, l)

pub place_named : (k : ℕ) (xs : List ℕ) (p : ℕ) → k ≤ p → p < k + length xs → takes (numbered k xs) p ≡ true
place_named k [] p low high = absurd (omega (arith, low, high))
place_named k (x ∷ xs) p low high = elim (cases_lt k p) [
  | inl l ↦ or_right (nat_eq k p) (takes (numbered (k + 1) xs) p) (place_named (k + 1) xs p (omega (arith, l)) (omega (arith, high)))
  | inr l ↦ let same : nat_eq k p ≡ true = grind (arith, nat_tests) in or_left (nat_eq k p) (takes (numbered (k + 1) xs) p) same
]
