-- How many labels are packed, from the zeros behind them.
use Rattle.std.proofs.Common.{◌≡◌, ℕ, zero, suc, ◌+◌, ◌*◌, ◌/◌, ◌%◌, ◌^◌, ◌<◌, ◌≤◌, List, [], ◌∷◌, length, ◌∙◌, ap, refl, subst, arith}
use Rattle.std.proofs.Math.Nat.{pow-suc}
use lib.Count.{count_trailing_zeros, under, trailing_of_zero}
use Rattle.complex_core.specs.Packed.{weight, pack, unpack, IsPacked}
use Rattle.complex_core.proofs.Packs.{AreLabels, pack_pos, pack_none, pack_below, number_is, packed_labels}

under_same : (d s t : ℕ) → (d ≡ 0 → s ≡ t) → under d s ≡ under d t
under_same zero s t f = ap suc (f refl)
under_same (suc d) s t f = refl

under_below : (d t j : ℕ) → (d ≡ 0 → t < j) → under d t < suc j
under_below zero t j f = omega (arith, f refl)
under_below (suc d) t j f = omega arith

-- all of a number stands k places higher
zeros_higher : (k j c : ℕ) → count_trailing_zeros (k + j) (c * 2 ^ k) ≡ k + count_trailing_zeros j c
unfolding count_trailing_zeros
zeros_higher zero j c = let e : 0 + j ≡ j = omega arith in let f : c * 1 ≡ c = omega arith in (λ i. count_trailing_zeros (e i) (f i)) ∙ omega arith
zeros_higher (suc k) j c =
    let m = c * 2 ^ k in
    let n = c * 2 ^ suc k in
    let e : suc k + j ≡ suc (k + j) = omega arith in
    let f : n ≡ m * 2 = ap (λ w. c * w) (pow-suc 2 k) ∙ omega arith in
    let r : n % 2 ≡ 0 = omega (arith, f) in
    let q : n / 2 ≡ m = omega (arith, f) in
    ap (λ d. count_trailing_zeros d n) e ∙ (λ i. under (r i) (count_trailing_zeros (k + j) (q i))) ∙ ap suc (zeros_higher k j c) ∙ omega arith

-- what stands k places higher doesn't count
zeros_lower : (k j c p : ℕ) → 0 < p → p < 2 ^ k → count_trailing_zeros (k + j) (c * 2 ^ k + p) ≡ count_trailing_zeros k p
unfolding count_trailing_zeros
zeros_lower zero j c p pos l = absurd (omega (arith, pos, l))
zeros_lower (suc k) j c p pos l =
    let m = c * 2 ^ k in
    let n = c * 2 ^ suc k + p in
    let w : 2 ^ suc k ≡ 2 ^ k * 2 = pow-suc 2 k in
    let e : suc k + j ≡ suc (k + j) = omega arith in
    let f : n ≡ m * 2 + p = ap (λ w. c * w + p) (pow-suc 2 k) ∙ omega arith in
    let r : n % 2 ≡ p % 2 = omega (arith, f) in
    let q : n / 2 ≡ m + p / 2 = omega (arith, f) in
    ap (λ d. count_trailing_zeros d n) e
    ∙ (λ i. under (r i) (count_trailing_zeros (k + j) (q i)))
    ∙ under_same (p % 2) _ _ (λ z. zeros_lower k j c (p / 2) (omega (arith, z, pos)) (omega (arith, w, l)))

zeros_few : (k c : ℕ) → 0 < c → c < 2 ^ k → count_trailing_zeros k c < k
unfolding count_trailing_zeros
zeros_few zero c pos l = absurd (omega (arith, pos, l))
zeros_few (suc k) c pos l = under_below (c % 2) (count_trailing_zeros k (c / 2)) k (λ z. zeros_few k (c / 2) (omega (arith, z, pos)) (omega (arith, pow-suc 2 k, l)))

pos_at : (n y : ℕ) (ys : List ℕ) → 0 < n → 0 < y → 0 < pack n (y ∷ ys)
pos_at zero y ys h k = absurd (omega (arith, h))
pos_at (suc n) y ys h k = pack_pos n y ys k

zeros_none : (n : ℕ) → count_trailing_zeros (16 * n) (pack n []) / 16 ≡ n
zeros_none n = let z : count_trailing_zeros (16 * n) (pack n []) ≡ 16 * n = ap (count_trailing_zeros (16 * n)) (pack_none n) ∙ trailing_of_zero (16 * n) in omega (arith, z)

pack_zeros : (n : ℕ) (xs : List ℕ) → length xs ≤ n → AreLabels xs → count_trailing_zeros (16 * n) (pack n xs) / 16 + length xs ≡ n
unfolding pack
pack_zeros n [] few h = omega (arith, zeros_none n)
pack_zeros zero (x ∷ xs) few h = absurd (omega (arith, few))
pack_zeros (suc n) (x ∷ []) few h =
    let e : 16 * suc n ≡ 16 * n + 16 = omega arith in
    let p : x * weight n + pack n [] ≡ x * weight n = omega (arith, pack_none n) in
    let t : count_trailing_zeros (16 * suc n) (pack (suc n) (x ∷ [])) ≡ 16 * n + count_trailing_zeros 16 x = (λ i. count_trailing_zeros (e i) (p i)) ∙ zeros_higher (16 * n) 16 x in
    let few : count_trailing_zeros 16 x < 16 = zeros_few 16 x h.0 h.1 in
    omega (arith, t, few)
pack_zeros (suc n) (x ∷ y ∷ ys) few h =
    let e : 16 * suc n ≡ 16 * n + 16 = omega arith in
    let p = pack n (y ∷ ys) in
    let pos : 0 < p = pos_at n y ys (omega arith) h.2.0 in
    let t : count_trailing_zeros (16 * suc n) (pack (suc n) (x ∷ y ∷ ys)) ≡ count_trailing_zeros (16 * n) p = ap (λ d. count_trailing_zeros d (x * weight n + p)) e ∙ zeros_lower (16 * n) 16 x p pos (pack_below n (y ∷ ys) h.2) in
    let ih : count_trailing_zeros (16 * n) p / 16 + length (y ∷ ys) ≡ n = pack_zeros n (y ∷ ys) (omega arith) h.2 in
    omega (arith, t, ih)

pub len_packed : (bits : ℕ) (xs : List ℕ) → IsPacked bits → unpack 8 bits ≡ xs → count_trailing_zeros 128 bits / 16 + length xs ≡ 8
len_packed bits xs h e =
    let P : List ℕ → Type 0 = λ ys. AreLabels ys in
    let few : length xs ≤ 8 = omega (arith, h.face.few, ap length e) in
    ap (λ b. count_trailing_zeros 128 b / 16 + length xs) (number_is bits xs h e) ∙ pack_zeros 8 xs few (subst P e (packed_labels bits h))
