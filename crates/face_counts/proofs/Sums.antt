-- Numbers of faces, and their alternating sum, place by place.
use Rattle.std.proofs.Common.{◌≡◌, ◌≢◌, ◌≤ℤ◌, ℤ, w64, FitsSigned, to_z, of_z, ◌*◌, ◌^◌, subst, ℕ, ◌+◌, ◌%◌, ◌<◌, ◌≤◌, zero, suc, Bool, true, false, not, nat_eq, List, [], ◌∷◌, ◌++◌, length, get_or, sym, ◌∙◌, ap, refl, arith, inl, inr, length-append}
use Rattle.std.proofs.lemmas.Bool.Decides.{nat_tests}
use Rattle.std.proofs.lemmas.Bool.{cases_lt}
use Rattle.std.proofs.lemmas.Int.{ints}
use lib.IntN.{pos, ◌+ℤ◌}
use Rattle.face_counts.specs.Faces.{number, numbers}
use Rattle.face_counts.specs.Eulers.{odd, signed, alternating}

pub length-numbers : (sets : List (List ℕ)) (n : ℕ) → length (numbers sets n) ≡ n
length-numbers sets zero = refl
length-numbers sets (suc n) = omega (arith, length-append (numbers sets n) (number sets n ∷ []), length-numbers sets n)

pub next_number : (sets : List (List ℕ)) (n : ℕ) → numbers sets (n + 1) ≡ numbers sets n ++ number sets n ∷ []
next_number sets n = let e : n + 1 ≡ suc n = omega arith in ap (numbers sets) e

front : (xs ys : List ℕ) (j : ℕ) → j < length xs → get_or (xs ++ ys) j 0 ≡ get_or xs j 0
front [] ys j l = absurd (omega (arith, l))
front (x ∷ xs) ys zero l = refl
front (x ∷ xs) ys (suc j) l = front xs ys j (omega (arith, l))

behind : (xs : List ℕ) (y : ℕ) (j : ℕ) → j ≡ length xs → get_or (xs ++ y ∷ []) j 0 ≡ y
behind xs y j e = ap (λ i. get_or (xs ++ y ∷ []) i 0) e ∙ at_end xs y
  where
    at_end : (xs : List ℕ) (y : ℕ) → get_or (xs ++ y ∷ []) (length xs) 0 ≡ y
    at_end [] y = refl
    at_end (x ∷ xs) y = at_end xs y

pub number_at : (sets : List (List ℕ)) (n j : ℕ) → j < n → get_or (numbers sets n) j 0 ≡ number sets j
number_at sets zero j l = absurd (omega (arith, l))
number_at sets (suc n) j l = elim (cases_lt j n) [
  | inl t ↦ front (numbers sets n) (number sets n ∷ []) j (omega (arith, t, length-numbers sets n)) ∙ number_at sets n j t
  | inr t ↦ let e : j ≡ n = omega (arith, l, t) in behind (numbers sets n) (number sets n) j (omega (arith, e, length-numbers sets n)) ∙ ap (number sets) (sym e)
]

pub odd_is : (j : ℕ) → odd j ≡ not (nat_eq (j % 2) 0)
odd_is zero = refl
odd_is (suc zero) = refl
odd_is (suc (suc j)) = twice (odd j) ∙ odd_is j ∙ (let e : j % 2 ≡ suc (suc j) % 2 = omega arith in ap (λ m. not (nat_eq m 0)) e)
  where
    twice : (b : Bool) → not (not b) ≡ b
    twice true = refl
    twice false = refl

pub next_sum : (sets : List (List ℕ)) (j : ℕ) → alternating sets (j + 1) ≡ alternating sets j +ℤ signed (odd j) (number sets j)
next_sum sets j = let e : j + 1 ≡ suc j = omega arith in ap (alternating sets) e

pub small_more : (bound : ℕ) (xs : List ℕ) (x : ℕ) → ((i : ℕ) → i < length xs → get_or xs i 0 < bound) → x < bound → (i : ℕ) → i < length (xs ++ x ∷ []) → get_or (xs ++ x ∷ []) i 0 < bound
small_more bound xs x h l i t = elim (cases_lt i (length xs)) [
  | inl b ↦ omega (arith, front xs (x ∷ []) i b, h i b)
  | inr b ↦ omega (arith, behind xs x i (omega (arith, b, t, length-append xs (x ∷ []))), l)
]

pub even_not_odd : (j : ℕ) → j % 2 ≡ 0 → odd j ≡ false
even_not_odd j e = odd_is j ∙ ap (λ m. not (nat_eq m 0)) e

pub not_even_odd : (j : ℕ) → (j % 2 ≢ 0) → odd j ≡ true
not_even_odd j h = let e : nat_eq (j % 2) 0 ≡ false = grind (arith, nat_tests) in odd_is j ∙ ap not e

-- a number with a sign is no further from 0 than its bound
pub signed_low : (minus : Bool) (n bound : ℕ) → n < bound → pos 0 ≤ℤ (signed minus n +ℤ pos bound)
signed_low true n bound h = omega (arith, ints, h)
signed_low false n bound h = omega (arith, ints, h)

pub signed_high : (minus : Bool) (n bound : ℕ) → n < bound → signed minus n ≤ℤ pos bound
signed_high true n bound h = omega (arith, ints, h)
signed_high false n bound h = omega (arith, ints, h)

-- the sum with one more term, as the code has it, is in range and is the next sum
pub record NextSum (sets : List (List ℕ)) (j : ℕ) (sum term : ℤ) : Type 0 where
  pub fits : FitsSigned w64 (sum +ℤ to_z w64 (of_z w64 term))
  pub sums : to_z w64 (of_z w64 (sum +ℤ to_z w64 (of_z w64 term))) ≡ alternating sets (j + 1)
  pub low : pos 0 ≤ℤ (to_z w64 (of_z w64 (sum +ℤ to_z w64 (of_z w64 term))) +ℤ pos ((j + 1) * 2 ^ 59))
  pub high : to_z w64 (of_z w64 (sum +ℤ to_z w64 (of_z w64 term))) ≤ℤ pos ((j + 1) * 2 ^ 59)

pub one_more : (sets : List (List ℕ)) (items : List ℕ) (n j : ℕ) (sum term : ℤ) → items ≡ numbers sets n → n ≤ 7 → j < length items → ((i : ℕ) → i < length items → get_or items i 0 < 2 ^ 59) → sum ≡ alternating sets j → pos 0 ≤ℤ (sum +ℤ pos (j * 2 ^ 59)) → sum ≤ℤ pos (j * 2 ^ 59) → term ≡ signed (odd j) (get_or items j 0) → NextSum sets j sum term
one_more sets items n j sum term all few l small s low high is =
    let inside : j < n = omega (arith, l, ap length all, length-numbers sets n) in
    let a : pos 0 ≤ℤ (term +ℤ pos (2 ^ 59)) = subst (λ z. pos 0 ≤ℤ (z +ℤ pos (2 ^ 59))) (sym is) (signed_low (odd j) (get_or items j 0) (2 ^ 59) (small j l)) in
    let b : term ≤ℤ pos (2 ^ 59) = subst (λ z. z ≤ℤ pos (2 ^ 59)) (sym is) (signed_high (odd j) (get_or items j 0) (2 ^ 59) (small j l)) in
    let same : to_z w64 (of_z w64 (sum +ℤ to_z w64 (of_z w64 term))) ≡ sum +ℤ term = omega (arith, ints, inside, few, low, high, a, b) in
    record {
      fits = omega (arith, ints, inside, few, low, high, a, b);
      sums = same ∙ (λ i. s i +ℤ (is ∙ ap (signed (odd j)) (ap (λ xs. get_or xs j 0) all ∙ number_at sets n j inside)) i) ∙ sym (next_sum sets j);
      low = omega (arith, ints, same, low, a);
      high = omega (arith, ints, same, high, b);
    }
