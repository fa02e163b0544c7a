-- The Euler characteristic by the numbers of faces.
use Rattle.std.proofs.Common.{◌≡◌, ◌≢◌, ℕ, ◌+◌, ◌<◌, ◌≤◌, zero, suc, Bool, true, false, not, nat_eq, nat_lt, List, [], ◌∷◌, length, sym, ◌∙◌, ap, refl, arith, cond}
use Rattle.std.specs.List.{filter}
use Rattle.std.specs.List.Sorted.{IsStrictlySortedBy}
use Rattle.std.specs.Ordering.{nat_cmp}
use Rattle.std.specs.Cmp.{second_so}
use Rattle.std.specs.Cmp.Lexicographic.{pointwise}
use Rattle.std.proofs.lemmas.Bool.Decides.{nat_tests}
use Rattle.std.proofs.lemmas.Int.{ints}
use lib.IntN.{ℤ, pos, negsuc, ◌+ℤ◌}
use Rattle.complex_core.specs.Labels.{holds}
use Rattle.complex_core.specs.Complexes.{is_held}
use Rattle.complex_core.proofs.Laws.{or_left, or_right, listed, same_set_itself, listed-filter, nat_eq_is}
use Rattle.face_counts.specs.Faces.{parts, is_some, faces, number}
use Rattle.face_counts.specs.Eulers.{odd, total, sign, power, signed, alternating}
use Rattle.face_counts.specs.Laws.{EulerLaw}
use Rattle.complex_core.proofs.SubsetLists.{clash, fewer}
use Rattle.face_counts.proofs.Parts.{Sets, sets_of, face_is}
use Rattle.std.proofs.lemmas.Bool.{lt-ltb}
use Rattle.complex_core.proofs.SetLists.{found_set, pure_at}

lt_zero : (m : ℕ) → nat_lt m 0 ≡ false
lt_zero m = grind (arith, nat_tests)

lt_next : (m n : ℕ) → (m ≢ n) → nat_lt m n ≡ nat_lt m (suc n)
lt_next m n h = grind (arith, nat_tests)

lt_self : (m n : ℕ) → m ≡ n → nat_lt m n ≡ false
lt_self m n h = grind (arith, nat_tests)

lt_suc : (m n : ℕ) → m ≡ n → nat_lt m (suc n) ≡ true
lt_suc m n h = grind (arith, nat_tests)

signed_more : (c : Bool) (s : List ℕ) (ys : List (List ℕ)) → signed c (length (s ∷ ys)) ≡ cond c (negsuc 0) (pos 1) +ℤ signed c (length ys)
signed_more true s ys = omega (arith, ints)
signed_more false s ys = omega (arith, ints)

-- one more face in the sum
alternating_more : (s : List ℕ) (xs : List (List ℕ)) (m : ℕ) → length s ≡ m + 1 → (n : ℕ) → alternating (s ∷ xs) n ≡ cond (nat_lt m n) (power m) (pos 0) +ℤ alternating xs n
alternating_more s xs m e zero = sym (ap (λ c. cond c (power m) (pos 0) +ℤ pos 0) (lt_zero m))
alternating_more s xs m e (suc n) =
    let g : alternating (s ∷ xs) n ≡ cond (nat_lt m n) (power m) (pos 0) +ℤ alternating xs n = alternating_more s xs m e n in
    elim (nat_eq (length s) (n + 1)) as (λ c. nat_eq (length s) (n + 1) ≡ c → alternating (s ∷ xs) n +ℤ signed (odd n) (length (cond c (s ∷ filter (λ r. nat_eq (length r) (n + 1)) xs) (filter (λ r. nat_eq (length r) (n + 1)) xs))) ≡ cond (nat_lt m (suc n)) (power m) (pos 0) +ℤ (alternating xs n +ℤ signed (odd n) (number xs n))) [
      | true ↦ λ t.
          let q : m ≡ n = omega (arith, e, nat_eq_is (length s) (n + 1) t) in
          let v : cond (nat_lt m n) (power m) (pos 0) ≡ pos 0 = ap (λ c. cond c (power m) (pos 0)) (lt_self m n q) in
          let u : cond (nat_lt m (suc n)) (power m) (pos 0) ≡ power n = ap (λ c. cond c (power m) (pos 0)) (lt_suc m n q) ∙ ap power q in
          first (alternating (s ∷ xs) n) (cond (nat_lt m n) (power m) (pos 0)) (alternating xs n) (signed (odd n) (length (s ∷ filter (λ r. nat_eq (length r) (n + 1)) xs))) (power n) (signed (odd n) (number xs n)) (cond (nat_lt m (suc n)) (power m) (pos 0)) g (signed_more (odd n) s (filter (λ r. nat_eq (length r) (n + 1)) xs)) v u
      | false ↦ λ t.
          let q : m ≢ n = λ p. clash {P = ⊥} (nat_eq (length s) (n + 1)) (same_size (length s) (n + 1) (omega (arith, e, p))) t in
          let v : cond (nat_lt m n) (power m) (pos 0) ≡ cond (nat_lt m (suc n)) (power m) (pos 0) = ap (λ c. cond c (power m) (pos 0)) (lt_next m n q) in
          second (alternating (s ∷ xs) n) (cond (nat_lt m n) (power m) (pos 0)) (alternating xs n) (signed (odd n) (number xs n)) (cond (nat_lt m (suc n)) (power m) (pos 0)) g v
    ] refl
  where
    same_size : (p q : ℕ) → p ≡ q → nat_eq p q ≡ true
    same_size p q h = grind (arith, nat_tests)

    first : (a b c d p r u : ℤ) → a ≡ b +ℤ c → d ≡ p +ℤ r → b ≡ pos 0 → u ≡ p → a +ℤ d ≡ u +ℤ (c +ℤ r)
    first a b c d p r u h1 h2 h3 h4 = omega (arith, ints, h1, h2, h3, h4)

    second : (a b c d u : ℤ) → a ≡ b +ℤ c → b ≡ u → a +ℤ d ≡ u +ℤ (c +ℤ d)
    second a b c d u h1 h2 = omega (arith, ints, h1, h2)

alternating_none : (n : ℕ) → alternating [] n ≡ pos 0
alternating_none zero = refl
alternating_none (suc n) = ap (λ z. z +ℤ signed (odd n) 0) (alternating_none n) ∙ elim (odd n) as (λ c. pos 0 +ℤ signed c 0 ≡ pos 0) [ true ↦ refl | false ↦ refl ]

sign_is : (s : List ℕ) (m : ℕ) → length s ≡ m + 1 → sign s ≡ power m
sign_is s m e = let p : length s ≡ suc m = omega (arith, e) in ap (λ k. cond (odd k) (pos 1) (negsuc 0)) p ∙ elim (odd m) as (λ c. cond (not c) (pos 1) (negsuc 0) ≡ cond c (negsuc 0) (pos 1)) [ true ↦ refl | false ↦ refl ]

pub total_alternates : (n : ℕ) (xs : List (List ℕ)) → ((s : List ℕ) → listed xs s ≡ true → (m : ℕ) × (length s ≡ m + 1) × (m < n)) → total sign xs ≡ alternating xs n
total_alternates n [] h = sym (alternating_none n)
total_alternates n (s ∷ xs) h =
    let p : (m : ℕ) × (length s ≡ m + 1) × (m < n) = h s (or_left (pointwise nat_eq s s) (listed xs s) (same_set_itself s)) in
    let g : total sign xs ≡ alternating xs n = total_alternates n xs (λ r t. h r (or_right (pointwise nat_eq s r) (listed xs r) t)) in
    (λ i. sign_is s p.0 p.1 i +ℤ g i) ∙ sym (alternating_more s xs p.0 p.1 n ∙ ap (λ c. cond c (power p.0) (pos 0) +ℤ alternating xs n) (lt-ltb p.0 n p.2))

size_of : (s : List ℕ) (n : ℕ) → is_some s ≡ true → length s ≤ n → (m : ℕ) × (length s ≡ m + 1) × (m < n)
size_of [] n t l = clash true refl (sym t)
size_of (x ∷ s) n t l = (length s, omega arith, omega (arith, l))

pub euler_law : EulerLaw
euler_law k h = total_alternates (k.dim + 1) (faces k.facets) (λ s t.
    let sets : Sets k.facets = sets_of k h in
    let p : IsStrictlySortedBy nat_cmp s × (is_held k.facets s ≡ true) = face_is k.facets s sets t in
    let q : (f : List ℕ) × (listed k.facets f ≡ true) × (holds f s ≡ true) = found_set (λ f. holds f s) k.facets p.1 in
    let z : is_some s ≡ true = second_so (listed (parts k.facets) s) (is_some s) (sym (listed-filter is_some (parts k.facets) s) ∙ t) in
    size_of s (k.dim + 1) z (omega (arith, fewer s q.0 p.0 (sets q.0 q.1) q.2, (pure_at k.dim k.facets q.0 h.pure q.1).size)))
