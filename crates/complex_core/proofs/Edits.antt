-- A label that is put between packed ones, or taken out, by shifting those behind it.
use Rattle.std.proofs.Common.{◌≡◌, ℕ, zero, suc, ◌+◌, ◌-◌, ◌*◌, ◌/◌, ◌%◌, ◌^◌, ◌<◌, ◌≤◌, List, [], ◌∷◌, ◌++◌, length, take, drop, sym, ◌∙◌, ap, subst, arith}
use Rattle.std.specs.List.{insert, remove}
use Rattle.std.proofs.lemmas.Nat.{div-mul-add, pow-add, shl_whole}
use Rattle.std.proofs.Math.Nat.{mod-eq_of_lt, div-mul-le_self, div-le_self, div-div-eq-div-mul, mul_assoc, mul_comm}
use Rattle.std.proofs.lemmas.List.{take-append-drop, length-drop, length-take-le}
use Rattle.std.proofs.lemmas.List.Edits.{length-insert}
use Rattle.complex_core.specs.Labels.{IsFace}
use Rattle.complex_core.specs.Packed.{weight, pack, unpack, IsPacked}
use Rattle.complex_core.specs.Packing.{weight_next}
use Rattle.complex_core.proofs.Packs.{AreLabels, DoFit, Packs, packs, pack_none, pack_below, number_is, labels_fit, are_labels, face_labels}

-- one position more behind the last label
pack_wider : (n : ℕ) (xs : List ℕ) → length xs ≤ n → pack (suc n) xs ≡ pack n xs * 65536
unfolding pack
pack_wider n [] few = omega (arith, pack_none n)
pack_wider zero (x ∷ xs) few = absurd (omega (arith, few))
pack_wider (suc n) (x ∷ xs) few = omega (arith, pack_wider n xs (omega arith), ap (λ w. x * w) (weight_next n))

-- labels in front, and those behind them
pack_front : (n k : ℕ) (xs : List ℕ) → length xs + k ≡ n → pack n xs ≡ pack (length xs) xs * weight k
unfolding pack
pack_front n k [] e = omega (arith, pack_none n)
pack_front zero k (x ∷ xs) e = absurd (omega (arith, e))
pack_front (suc n) k (x ∷ xs) e =
    let l = length xs in
    let f : 16 * n ≡ 16 * l + 16 * k = omega (arith, e) in
    let w : weight n ≡ weight l * weight k = ap (λ m. 2 ^ m) f ∙ pow-add 2 (16 * l) (16 * k) in
    (λ i. x * w i + pack_front n k xs (omega (arith, e)) i) ∙ omega arith

pack_append : (n k : ℕ) (xs ys : List ℕ) → length xs + k ≡ n → pack n (xs ++ ys) ≡ pack n xs + pack k ys
unfolding pack
pack_append n k [] ys e = let f : n ≡ k = omega (arith, e) in ap (λ m. pack m ys) f ∙ omega (arith, pack_none n)
pack_append zero k (x ∷ xs) ys e = absurd (omega (arith, e))
pack_append (suc n) k (x ∷ xs) ys e = omega (arith, pack_append n k xs ys (omega (arith, e)))

labels_back : (xs ys : List ℕ) → AreLabels (xs ++ ys) → AreLabels ys
labels_back [] ys h = h
labels_back (x ∷ xs) ys h = labels_back xs ys h.2

-- the labels up to a position, and the numbers that they make
record Parted (bits k : ℕ) (xs : List ℕ) (i : ℕ) : Type 0 where
  long : length (take i xs) ≡ i
  whole : bits ≡ pack 8 (take i xs) + pack k (drop i xs)
  high : pack 8 (take i xs) ≡ pack i (take i xs) * weight k
  low : pack k (drop i xs) < weight k

parted : (bits k : ℕ) (xs : List ℕ) (i : ℕ) → IsPacked bits → unpack 8 bits ≡ xs → i ≤ length xs → i + k ≡ 8 → Parted bits k xs i
parted bits k xs i h e l s =
    let long : length (take i xs) ≡ i = length-take-le i xs l in
    let P : List ℕ → Type 0 = λ ys. AreLabels ys in
    let own : AreLabels (take i xs ++ drop i xs) = subst P (sym (take-append-drop i xs)) (are_labels bits xs h e) in
    let room : length (take i xs) + k ≡ 8 = omega (arith, long, s) in
    record {
      long = long;
      whole = number_is bits xs h e ∙ ap (pack 8) (sym (take-append-drop i xs)) ∙ pack_append 8 k (take i xs) (drop i xs) room;
      high = pack_front 8 k (take i xs) room ∙ ap (λ n. pack n (take i xs) * weight k) long;
      low = pack_below k (drop i xs) (labels_back (take i xs) (drop i xs) own);
    }

-- a number to a multiple of w, and what is left
down : (b w t p : ℕ) → b ≡ t * w + p → p < w → b / w * w ≡ t * w
down b w t p e l = ap (λ n. n / w * w) e ∙ ap (λ n. n * w) (div-mul-add t w p l)

rest : (b w t p : ℕ) → b ≡ t * w + p → p < w → b - b / w * w ≡ p
rest b w t p e l = omega (arith, down b w t p e l, e)

shifted_back : (b w : ℕ) → b < 2 ^ 128 → b / w * w % 2 ^ 128 ≡ b / w * w
shifted_back b w h = mod-eq_of_lt (omega (arith, div-mul-le_self b w))

pub front_packed : (bits shift i : ℕ) (xs : List ℕ) → IsPacked bits → unpack 8 bits ≡ xs → i ≤ length xs → shift + 16 * i ≡ 112 → bits / 2 ^ shift / 65536 * 65536 % 2 ^ 128 * 2 ^ shift % 2 ^ 128 ≡ pack 8 (take i xs)
front_packed bits shift i xs h e l s =
    let j = 7 - i in
    let p : Parted bits (suc j) xs i = parted bits (suc j) xs i h e l (omega (arith, s)) in
    let w = 2 ^ shift in
    let q = bits / w in
    let same : w ≡ weight j = let f : shift ≡ 16 * j = omega (arith, s) in ap (λ n. 2 ^ n) f in
    let wide : w * 65536 ≡ weight (suc j) = ap (λ n. n * 65536) same ∙ mul_comm (weight j) 65536 ∙ sym (weight_next j) in
    let one : q / 65536 * 65536 % 2 ^ 128 ≡ q / 65536 * 65536 = shifted_back q 65536 (omega (arith, h.small, div-le_self bits w)) in
    let two : q / 65536 * 65536 * w ≡ bits / (w * 65536) * (w * 65536) = ap (λ n. n * 65536 * w) (div-div-eq-div-mul bits w 65536) ∙ mul_assoc (bits / (w * 65536)) 65536 w ∙ ap (λ n. bits / (w * 65536) * n) (mul_comm 65536 w) in
    ap (λ n. n * w % 2 ^ 128) one ∙ ap (λ n. n % 2 ^ 128) two ∙ shifted_back bits (w * 65536) h.small
    ∙ ap (λ n. bits / n * n) wide
    ∙ down bits (weight (suc j)) (pack i (take i xs)) (pack (suc j) (drop i xs)) (p.whole ∙ ap (λ n. n + pack (suc j) (drop i xs)) p.high) p.low
    ∙ sym p.high

pub front_under : (bits front i : ℕ) (xs : List ℕ) → IsPacked bits → unpack 8 bits ≡ xs → front ≡ pack 8 (take i xs) → i ≤ length xs → front ≤ bits
front_under bits front i xs h e f l = let few : length xs ≤ 8 = omega (arith, h.face.few, ap length e) in let p : Parted bits (8 - i) xs i = parted bits (8 - i) xs i h e l (omega (arith, few)) in omega (arith, f, p.whole)

pub behind_packed : (bits shift i : ℕ) (xs : List ℕ) → IsPacked bits → unpack 8 bits ≡ xs → i < length xs → shift + 16 * i ≡ 112 → bits - bits / 2 ^ shift * 2 ^ shift % 2 ^ 128 ≡ pack (7 - i) (drop (i + 1) xs)
behind_packed bits shift i xs h e l s =
    let j = 7 - i in
    let p : Parted bits j xs (i + 1) = parted bits j xs (i + 1) h e (omega arith) (omega (arith, s)) in
    let same : shift ≡ 16 * j = omega (arith, s) in
    ap (λ n. bits - n) (shifted_back bits (2 ^ shift) h.small)
    ∙ ap (λ n. bits - bits / 2 ^ n * 2 ^ n) same
    ∙ rest bits (weight j) (pack (i + 1) (take (i + 1) xs)) (pack j (drop (i + 1) xs)) (p.whole ∙ ap (λ n. n + pack j (drop (i + 1) xs)) p.high) p.low

fit_both : (xs ys : List ℕ) → DoFit xs → DoFit ys → DoFit (xs ++ ys)
fit_both [] ys f g = g
fit_both (x ∷ xs) ys f g = (f.0, fit_both xs ys f.1 g)

fit_take : (i : ℕ) (xs : List ℕ) → DoFit xs → DoFit (take i xs)
fit_take zero xs f = tt
fit_take (suc i) [] f = tt
fit_take (suc i) (x ∷ xs) f = (f.0, fit_take i xs f.1)

fit_drop : (i : ℕ) (xs : List ℕ) → DoFit xs → DoFit (drop i xs)
fit_drop zero xs f = f
fit_drop (suc i) [] f = tt
fit_drop (suc i) (x ∷ xs) f = fit_drop i xs f.1

pub insert_packed : (bits front x shift i : ℕ) (xs : List ℕ) → IsPacked bits → unpack 8 bits ≡ xs → front ≡ pack 8 (take i xs) → i ≤ length xs → IsFace (insert xs i x) → x < 65536 → shift + 16 * i ≡ 112 → Packs (front + x * 2 ^ shift % 2 ^ 128 + (bits - front) / 65536) (insert xs i x)
unfolding pack
insert_packed bits front x shift i xs h e f l face fit s =
    let j = 7 - i in
    let few : length xs + 1 ≤ 8 = omega (arith, face.few, length-insert xs i x l) in
    let p : Parted bits (suc j) xs i = parted bits (suc j) xs i h e l (omega (arith, s)) in
    let ys = drop i xs in
    let position : shift ≡ 16 * j = omega (arith, s) in
    let next : x * 2 ^ shift % 2 ^ 128 ≡ x * weight j = shl_whole x 16 shift 128 fit (omega (arith, s)) ∙ ap (λ m. x * 2 ^ m) position in
    let wider : pack (suc j) ys ≡ pack j ys * 65536 = pack_wider j ys (omega (arith, few, length-drop i xs)) in
    let back : (bits - front) / 65536 ≡ pack j ys = let b : bits - front ≡ pack j ys * 65536 = omega (arith, p.whole, f, wider) in ap (λ n. n / 65536) b ∙ omega arith in
    let room : length (take i xs) + suc j ≡ 8 = omega (arith, p.long, s) in
    let sum : front + x * 2 ^ shift % 2 ^ 128 + (bits - front) / 65536 ≡ pack 8 (insert xs i x) = (λ k. f k + next k + back k) ∙ omega arith ∙ sym (pack_append 8 (suc j) (take i xs) (x ∷ ys) room) in
    let own : DoFit xs = labels_fit bits xs h e in
    packs _ (insert xs i x) sum face (fit_both (take i xs) (x ∷ ys) (fit_take i xs own) (fit, fit_drop i xs own))

pub remove_packed : (bits front behind i : ℕ) (xs : List ℕ) → IsPacked bits → unpack 8 bits ≡ xs → front ≡ pack 8 (take i xs) → behind ≡ pack (7 - i) (drop (i + 1) xs) → i < length xs → IsFace (remove xs i) → Packs (front + behind * 65536 % 2 ^ 128) (remove xs i)
remove_packed bits front behind i xs h e f g l face =
    let j = 7 - i in
    let ys = drop (i + 1) xs in
    let few : length xs ≤ 8 = omega (arith, h.face.few, ap length e) in
    let own : DoFit xs = labels_fit bits xs h e in
    let next : suc i ≡ i + 1 = omega arith in
    let same : take i xs ++ ys ≡ remove xs i = ap (λ n. take i xs ++ drop n xs) (sym next) in
    let fit : DoFit (remove xs i) = let P : List ℕ → Type 0 = λ zs. DoFit zs in subst P same (fit_both (take i xs) ys (fit_take i xs own) (fit_drop (i + 1) xs own)) in
    let room : length (take i xs) + suc j ≡ 8 = omega (arith, length-take-le i xs (omega arith), few, l) in
    let wider : pack (suc j) ys ≡ pack j ys * 65536 = pack_wider j ys (omega (arith, few, length-drop (i + 1) xs)) in
    let whole : pack 8 (remove xs i) ≡ pack 8 (take i xs) + pack j ys * 65536 = ap (pack 8) (sym same) ∙ pack_append 8 (suc j) (take i xs) ys room ∙ ap (λ n. pack 8 (take i xs) + n) wider in
    let below : pack 8 (remove xs i) < 2 ^ 128 = pack_below 8 (remove xs i) (face_labels (remove xs i) face fit) in
    let small : pack j ys * 65536 < 2 ^ 128 = omega (arith, below, whole) in
    packs _ (remove xs i) ((λ k. f k + g k * 65536 % 2 ^ 128) ∙ ap (λ n. pack 8 (take i xs) + n) (mod-eq_of_lt small) ∙ sym whole) face fit
