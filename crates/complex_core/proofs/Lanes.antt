-- The eight places of a number as the lanes of a vector, the last label's lane first.
use Rattle.std.proofs.Common.{◌≡◌, ℕ, zero, suc, ◌+◌, ◌*◌, ◌/◌, ◌%◌, ◌^◌, ◌<◌, ◌≤◌, Bool, true, false, not, cond, nat_eq, w16, ◌||◌, List, [], ◌∷◌, ◌++◌, length, map, replicate, sym, ◌∙◌, ap, refl, arith}
use Rattle.std.proofs.Math.Nat.{pow-suc}
use Rattle.std.proofs.lemmas.Bool.Decides.{nat_tests}
use Rattle.std.proofs.lemmas.List.Folds.{list_any-append}
use Rattle.std.specs.Simd.Lanes.{number_l, digits_l, mask_l, top, zip2}
use Rattle.std.proofs.lemmas.Simd.{bitmask_splat}
use Rattle.complex_core.specs.Labels.{has}
use Rattle.complex_core.specs.Packed.{weight, pack, unpack, IsPacked}
use Rattle.complex_core.specs.Packing.{weight_next}
use Rattle.complex_core.proofs.Packs.{AreLabels, are_labels, number_is, pack_none, pack_below}
use Rattle.complex_core.proofs.Searching.{to_end}

number_of_digits : (n x : ℕ) → x < 256 ^ n → number_l 256 (digits_l 256 n x) ≡ x
number_of_digits zero x h = omega (arith, h)
number_of_digits (suc n) x h =
    let less : x / 256 < 256 ^ n = omega (arith, h, pow-suc 256 n) in
    omega (arith, number_of_digits n (x / 256) less)

-- a vector of two halves, its bytes, and those as lanes of 16 bits
abbrev pub lanes_of : ℕ → List ℕ
lanes_of bits = digits_l 65536 8 (number_l 256 (digits_l 256 16 (number_l (2 ^ 64) (bits % 2 ^ 64 ∷ bits / 2 ^ 64 ∷ []))))

lanes_are : (bits : ℕ) → bits < 2 ^ 128 → lanes_of bits ≡ digits_l 65536 8 bits
lanes_are bits h = let both : bits % 2 ^ 64 + 2 ^ 64 * (bits / 2 ^ 64 + 2 ^ 64 * 0) ≡ bits = omega arith in ap (digits_l 65536 8) (ap (λ b. number_l 256 (digits_l 256 16 b)) both ∙ number_of_digits 16 bits h)

no_digits : (n x : ℕ) → 0 < x → has (digits_l 65536 n 0) x ≡ false
no_digits zero x pos = refl
no_digits (suc n) x pos = let t : nat_eq 0 x ≡ false = grind (arith, nat_tests) in ap (λ b. b || has (digits_l 65536 n 0) x) t ∙ no_digits n x pos

-- the highest digit comes last
last_digit : (n y q : ℕ) → y < 65536 → q < weight n → digits_l 65536 (suc n) (y * weight n + q) ≡ digits_l 65536 n q ++ y ∷ []
last_digit zero y q fit l = let e : (y * weight 0 + q) % 65536 ≡ y = omega (arith, l, fit) in ap (λ z. z ∷ []) e
last_digit (suc n) y q fit l =
    let m = y * weight n in
    let e : y * weight (suc n) + q ≡ m * 65536 + q = ap (λ w. y * w + q) (weight_next n) ∙ omega arith in
    let low : (y * weight (suc n) + q) % 65536 ≡ q % 65536 = omega (arith, e) in
    let high : (y * weight (suc n) + q) / 65536 ≡ m + q / 65536 = omega (arith, e) in
    let less : q / 65536 < weight n = omega (arith, l, weight_next n) in
    (λ i. low i ∷ digits_l 65536 (suc n) (high i)) ∙ ap (λ zs. q % 65536 ∷ zs) (last_digit n y (q / 65536) fit less)

has_digits : (n : ℕ) (xs : List ℕ) (x : ℕ) → length xs ≤ n → AreLabels xs → 0 < x → has (digits_l 65536 n (pack n xs)) x ≡ has xs x
unfolding pack
has_digits n [] x few h pos = ap (λ b. has (digits_l 65536 n b) x) (pack_none n) ∙ no_digits n x pos
has_digits zero (y ∷ ys) x few h pos = absurd (omega (arith, few))
has_digits (suc n) (y ∷ ys) x few h pos =
    let ds = digits_l 65536 n (pack n ys) in
    ap (λ zs. has zs x) (last_digit n y (pack n ys) h.1 (pack_below n ys h.2))
    ∙ list_any-append (λ z. nat_eq z x) ds (y ∷ [])
    ∙ ap (λ b. b || (nat_eq y x || false)) (has_digits n ys x (omega arith) h.2 pos)
    ∙ sym (to_end (nat_eq y x) (has ys x))

pub eight_lanes : (bits : ℕ) → length (lanes_of bits) ≡ 8
eight_lanes bits = refl

-- whether the comparison of the lanes with a label has a bit set
some_bit : (b : Bool) (m : ℕ) → not (nat_eq (cond b 1 0 + 2 * m) 0) ≡ (b || not (nat_eq m 0))
some_bit true m = let t : nat_eq (1 + 2 * m) 0 ≡ false = grind (arith, nat_tests) in ap not t
some_bit false m = let t : nat_eq (0 + 2 * m) 0 ≡ nat_eq m 0 = grind (arith, nat_tests) in ap not t

any_bit : (ls : List ℕ) (x : ℕ) → not (nat_eq (mask_l (map (λ y. nat_eq y x) ls)) 0) ≡ has ls x
any_bit [] x = refl
any_bit (y ∷ ls) x = some_bit (nat_eq y x) (mask_l (map (λ z. nat_eq z x) ls)) ∙ ap (λ b. nat_eq y x || b) (any_bit ls x)

pub any_lane : (ls : List ℕ) (x : ℕ) → length ls ≡ 8 → not (nat_eq (mask_l (map (top 15) (zip2 (λ a b. cond (nat_eq a b) 65535 0) ls (replicate 8 x))) % 2 ^ 64) 0) ≡ has ls x
any_lane ls x long = ap (λ m. not (nat_eq m 0)) (bitmask_splat w16 nat_eq ls 8 x long (omega arith)) ∙ any_bit ls x

-- a label is in some lane exactly where it is in the face
pub has_lane : (bits : ℕ) (xs : List ℕ) → IsPacked bits → unpack 8 bits ≡ xs → (x : ℕ) → 0 < x → has (lanes_of bits) x ≡ has xs x
has_lane bits xs h e x pos =
    let few : length xs ≤ 8 = omega (arith, h.face.few, ap length e) in
    ap (λ zs. has zs x) (lanes_are bits h.small ∙ ap (digits_l 65536 8) (number_is bits xs h e)) ∙ has_digits 8 xs x few (are_labels bits xs h e) pos
