-- Labels packed into one number: what the number says of them.
use Rattle.std.proofs.Common.{◌≡◌, ℕ, zero, suc, ◌+◌, ◌-◌, ◌*◌, ◌/◌, ◌%◌, ◌^◌, ◌<◌, ◌≤◌, inl, inr, get_or, Bool, true, false, cond, nat_eq, List, [], ◌∷◌, ◌++◌, length, take, replicate, sym, ◌∙◌, ap, refl, subst, arith, length-append}
use Rattle.std.proofs.lemmas.Nat.{mul-add-lt, div-mul-add, mod-mul-add, mod_below, div_below, pow-add, pow_pos, shl_whole}
use Rattle.std.proofs.Math.Nat.{mul-le-mul_right, mod-eq_of_lt, mul-add-div_right, mul-add-mod_self_right, div-eq_of_lt}
use Rattle.std.proofs.lemmas.Bool.Decides.{nat_tests}
use Rattle.std.proofs.lemmas.Bool.{cases_order}
use Rattle.std.specs.Ordering.{nat_cmp, ordering_then, is_eq}
use Rattle.std.specs.declared.cmp.Ordering.{Ordering}
use Rattle.std.specs.Cmp.{unsigned_ties}
use Rattle.std.specs.Cmp.Lexicographic.{slice_cmp, pointwise, texts_ties}
use Rattle.complex_core.specs.Labels.{IsFace, padded}
use Rattle.complex_core.specs.Packed.{weight, pack, unpack, IsPacked}
use Rattle.complex_core.specs.Packing.{weight_next, weight_pos, pack_unpack}
use Rattle.complex_core.proofs.Sets.{Above, above_head}
use Rattle.complex_core.proofs.Faces.{cmp_less, cmp_equal, cmp_greater, less_cmp, face_same, none_is_face}

-- each label is at least 1 and fits its position
abbrev pub AreLabels : List ℕ → Type 0
AreLabels [] = Unit {0}
AreLabels (x ∷ xs) = (0 < x) × (x < 65536) × AreLabels xs

abbrev pub DoFit : List ℕ → Type 0
DoFit [] = Unit {0}
DoFit (x ∷ xs) = (x < 65536) × DoFit xs

joined : (xs : List ℕ) → Above nat_cmp 0 xs → DoFit xs → AreLabels xs
joined [] a f = tt
joined (x ∷ xs) a f = (less_cmp 0 x a.0, f.0, joined xs a.1 f.1)

pub unpack_fits : (n bits : ℕ) → bits < weight n → DoFit (unpack n bits)
unfolding unpack
unpack_fits zero bits h = tt
unpack_fits (suc n) bits h =
    let below : bits < 65536 * weight n = omega (arith, weight_next n) in
    let first : bits / weight n < 65536 = div_below bits (weight n) 65536 (weight_pos n) below in
    elim (nat_eq bits 0) as (λ b. DoFit (cond b [] (bits / weight n ∷ unpack n (bits % weight n)))) [
      | true ↦ tt
      | false ↦ (first, unpack_fits n (bits % weight n) (mod_below bits (weight n) (weight_pos n)))
    ]

pub face_labels : (xs : List ℕ) → IsFace xs → DoFit xs → AreLabels xs
face_labels xs h f = joined xs (above_head nat_cmp 0 xs h.rising) f

pub packed_labels : (bits : ℕ) → IsPacked bits → AreLabels (unpack 8 bits)
packed_labels bits h = face_labels (unpack 8 bits) h.face (unpack_fits 8 bits h.small)

-- what is packed stays below the next position
pub pack_below : (n : ℕ) (xs : List ℕ) → AreLabels xs → pack n xs < weight n
unfolding pack
pack_below zero xs h = omega arith
pack_below (suc n) [] h = weight_pos (suc n)
pack_below (suc n) (x ∷ xs) h = omega (arith, weight_next n, mul-add-lt x (weight n) (pack n xs) 65536 h.1 (pack_below n xs h.2))

pub pack_pos : (n x : ℕ) (xs : List ℕ) → 0 < x → 0 < pack (suc n) (x ∷ xs)
unfolding pack
pack_pos n x xs h = omega (arith, weight_pos n, mul-le-mul_right {m = 1} {n = x} (weight n) h)

pub unpack_pack : (n : ℕ) (xs : List ℕ) → length xs ≤ n → AreLabels xs → unpack n (pack n xs) ≡ xs
unfolding pack unpack
unpack_pack zero [] few h = refl
unpack_pack zero (x ∷ xs) few h = absurd (omega (arith, few))
unpack_pack (suc n) [] few h = refl
unpack_pack (suc n) (x ∷ xs) few h =
    let bits = pack (suc n) (x ∷ xs) in
    let pos : 0 < bits = pack_pos n x xs h.0 in
    let t : nat_eq bits 0 ≡ false = grind (arith, nat_tests) in
    let below : pack n xs < weight n = pack_below n xs h.2 in
    let first : bits / weight n ≡ x = div-mul-add x (weight n) (pack n xs) below in
    let rest : bits % weight n ≡ pack n xs = mod-mul-add x (weight n) (pack n xs) below in
    let ih : unpack n (pack n xs) ≡ xs = unpack_pack n xs (omega arith) h.2 in
    ap (λ b. cond b [] (bits / weight n ∷ unpack n (bits % weight n))) t ∙ (λ i. first i ∷ unpack n (rest i)) ∙ ap (λ ys. x ∷ ys) ih

-- the order of the numbers is the order of the lists
before : (w x y p q : ℕ) → p < w → x < y → x * w + p < y * w + q
before w x y p q l h = omega (arith, mul-le-mul_right {m = x + 1} {n = y} w (omega arith))

alike : (a p q : ℕ) → nat_cmp (a + p) (a + q) ≡ nat_cmp p q
alike a p q = elim (cases_order p q) [
  | inl e ↦ cmp_equal (a + p) (a + q) (omega arith) ∙ sym (cmp_equal p q e)
  | inr o ↦ elim o [
    | inl l ↦ cmp_less (a + p) (a + q) (omega arith) ∙ sym (cmp_less p q l)
    | inr g ↦ cmp_greater (a + p) (a + q) (omega arith) ∙ sym (cmp_greater p q g)
  ]
]

pub pack_cmp : (n : ℕ) (xs ys : List ℕ) → length xs ≤ n → length ys ≤ n → AreLabels xs → AreLabels ys → nat_cmp (pack n xs) (pack n ys) ≡ slice_cmp nat_cmp xs ys
unfolding pack
pack_cmp zero [] [] l m h k = refl
pack_cmp zero [] (y ∷ ys) l m h k = absurd (omega (arith, m))
pack_cmp zero (x ∷ xs) ys l m h k = absurd (omega (arith, l))
pack_cmp (suc n) [] [] l m h k = refl
pack_cmp (suc n) [] (y ∷ ys) l m h k = cmp_less 0 (pack (suc n) (y ∷ ys)) (pack_pos n y ys k.0)
pack_cmp (suc n) (x ∷ xs) [] l m h k = cmp_greater (pack (suc n) (x ∷ xs)) 0 (pack_pos n x xs h.0)
pack_cmp (suc n) (x ∷ xs) (y ∷ ys) l m h k =
    let w = weight n in
    let p = pack n xs in
    let q = pack n ys in
    let ih : nat_cmp p q ≡ slice_cmp nat_cmp xs ys = pack_cmp n xs ys (omega arith) (omega arith) h.2 k.2 in
    elim (cases_order x y) [
      | inl e ↦ ap (λ z. nat_cmp (z * w + p) (y * w + q)) e ∙ alike (y * w) p q ∙ ih ∙ sym (ap (λ r. ordering_then r (slice_cmp nat_cmp xs ys)) (cmp_equal x y e))
      | inr o ↦ elim o [
        | inl s ↦ cmp_less (x * w + p) (y * w + q) (before w x y p q (pack_below n xs h.2) s) ∙ sym (ap (λ r. ordering_then r (slice_cmp nat_cmp xs ys)) (cmp_less x y s))
        | inr g ↦ cmp_greater (x * w + p) (y * w + q) (before w y x q p (pack_below n ys k.2) g) ∙ sym (ap (λ r. ordering_then r (slice_cmp nat_cmp xs ys)) (cmp_greater x y g))
      ]
    ]

pub packed_cmp : (a b : ℕ) → IsPacked a → IsPacked b → nat_cmp a b ≡ slice_cmp nat_cmp (unpack 8 a) (unpack 8 b)
packed_cmp a b h k =
    (λ i. nat_cmp (sym (pack_unpack 8 a h.small) i) (sym (pack_unpack 8 b k.small) i))
    ∙ pack_cmp 8 (unpack 8 a) (unpack 8 b) h.face.few k.face.few (packed_labels a h) (packed_labels b k)

-- a label more
pub pack_none : (n : ℕ) → pack n [] ≡ 0
unfolding pack
pack_none zero = refl
pack_none (suc n) = refl

pub pack_push : (n k : ℕ) (xs : List ℕ) (x : ℕ) → length xs + k + 1 ≡ n → pack n (xs ++ x ∷ []) ≡ pack n xs + x * weight k
unfolding pack
pack_push zero k xs x e = absurd (omega (arith, e))
pack_push (suc n) k [] x e = let f : n ≡ k = omega (arith, e) in ap (λ m. x * weight m + pack n []) f ∙ omega (arith, pack_none n)
pack_push (suc n) k (y ∷ xs) x e = let ih : pack n (xs ++ x ∷ []) ≡ pack n xs + x * weight k = pack_push n k xs x (omega (arith, e)) in omega (arith, ih)

-- the label at a position, or 0
pub pack_label : (n k : ℕ) (xs : List ℕ) (i : ℕ) → i + k + 1 ≡ n → AreLabels xs → pack n xs / weight k % 65536 ≡ get_or xs i 0
unfolding pack
pack_label zero k xs i e h = absurd (omega (arith, e))
pack_label (suc n) k [] i e h = ap (λ m. m % 65536) (div-eq_of_lt (weight_pos k))
pack_label (suc n) k (x ∷ xs) zero e h =
    let f : n ≡ k = omega (arith, e) in
    ap (λ m. (x * weight n + pack n xs) / weight m % 65536) (sym f) ∙ ap (λ m. m % 65536) (div-mul-add x (weight n) (pack n xs) (pack_below n xs h.2)) ∙ mod-eq_of_lt h.1
pack_label (suc n) k (x ∷ xs) (suc i) e h =
    let ih : pack n xs / weight k % 65536 ≡ get_or xs i 0 = pack_label n k xs i (omega (arith, e)) h.2 in
    let f : 16 * n ≡ (16 * i + 16) + 16 * k = omega (arith, e) in
    let g : weight n ≡ weight i * 65536 * weight k = ap (λ m. 2 ^ m) f ∙ pow-add 2 (16 * i + 16) (16 * k) ∙ ap (λ m. m * weight k) (pow-add 2 (16 * i) 16) in
    let a : x * weight n ≡ x * weight i * 65536 * weight k = ap (λ m. x * m) g ∙ omega arith in
    ap (λ m. (m + pack n xs) / weight k % 65536) a
    ∙ ap (λ m. m % 65536) (mul-add-div_right (weight_pos k) (x * weight i * 65536) (pack n xs))
    ∙ mul-add-mod_self_right (x * weight i) 65536 (pack n xs / weight k)
    ∙ ih

-- for the methods: the number, and the labels that it is seen as
pub packed_order : (a b : ℕ) (xs ys : List ℕ) (r : Ordering) → IsPacked a → IsPacked b → unpack 8 a ≡ xs → unpack 8 b ≡ ys → r ≡ nat_cmp a b → r ≡ slice_cmp nat_cmp xs ys
packed_order a b xs ys r h k e f g = g ∙ packed_cmp a b h k ∙ (λ i. slice_cmp nat_cmp (e i) (f i))

pub packed_same : (a b : ℕ) (xs ys : List ℕ) (r : Bool) → IsPacked a → IsPacked b → unpack 8 a ≡ xs → unpack 8 b ≡ ys → r ≡ nat_eq a b → r ≡ pointwise nat_eq xs ys
packed_same a b xs ys r h k e f g = g ∙ unsigned_ties a b ∙ ap is_eq (packed_order a b xs ys (nat_cmp a b) h k e f refl) ∙ sym (texts_ties xs ys)

pub none_unpacked : unpack 8 0 ≡ []
unfolding unpack
none_unpacked = refl

pub none_packed : IsPacked 0
none_packed = record { small = omega arith; face = face_same [] (unpack 8 0) (sym none_unpacked) none_is_face }

fit_push : (xs : List ℕ) (x : ℕ) → DoFit xs → x < 65536 → DoFit (xs ++ x ∷ [])
fit_push [] x f h = (h, tt)
fit_push (y ∷ xs) x f h = (f.0, fit_push xs x f.1 h)

pub number_is : (bits : ℕ) (xs : List ℕ) → IsPacked bits → unpack 8 bits ≡ xs → bits ≡ pack 8 xs
number_is bits xs h e = sym (pack_unpack 8 bits h.small) ∙ ap (pack 8) e

-- a number that packs these labels
pub record Packs (bits : ℕ) (xs : List ℕ) : Type 0 where
  pub small : bits < 2 ^ 128
  pub packed : IsPacked bits
  pub is : unpack 8 bits ≡ xs

pub packs : (bits : ℕ) (xs : List ℕ) → bits ≡ pack 8 xs → IsFace xs → DoFit xs → Packs bits xs
packs bits xs e face fit =
    let labels : AreLabels xs = face_labels xs face fit in
    let is : unpack 8 bits ≡ xs = ap (unpack 8) e ∙ unpack_pack 8 xs face.few labels in
    let small : bits < 2 ^ 128 = let P : ℕ → Type 0 = λ m. m < 2 ^ 128 in subst P (sym e) (pack_below 8 xs labels) in
    record {
      small = small;
      packed = record { small = small; face = face_same xs (unpack 8 bits) (sym is) face };
      is = is;
    }

pub labels_fit : (bits : ℕ) (xs : List ℕ) → IsPacked bits → unpack 8 bits ≡ xs → DoFit xs
labels_fit bits xs h e = let P : List ℕ → Type 0 = λ ys. DoFit ys in subst P e (unpack_fits 8 bits h.small)

pub push_packed : (bits x shift : ℕ) (xs : List ℕ) → IsPacked bits → unpack 8 bits ≡ xs → IsFace (xs ++ x ∷ []) → x < 65536 → shift + 16 * length xs ≡ 112 → Packs (bits + x * 2 ^ shift % 2 ^ 128) (xs ++ x ∷ [])
push_packed bits x shift xs h e face fit s =
    let few : length xs + 1 ≤ 8 = omega (arith, face.few, length-append xs (x ∷ [])) in
    let k = 7 - length xs in
    let position : shift ≡ 16 * k = omega (arith, s, few) in
    let whole : x * 2 ^ shift % 2 ^ 128 ≡ x * weight k = shl_whole x 16 shift 128 fit (omega (arith, s)) ∙ ap (λ m. x * 2 ^ m) position in
    let sum : bits + x * 2 ^ shift % 2 ^ 128 ≡ pack 8 (xs ++ x ∷ []) = (λ i. number_is bits xs h e i + whole i) ∙ sym (pack_push 8 k xs x (omega (arith, few))) in
    packs _ (xs ++ x ∷ []) sum face (fit_push xs x (labels_fit bits xs h e) fit)

pub are_labels : (bits : ℕ) (xs : List ℕ) → IsPacked bits → unpack 8 bits ≡ xs → AreLabels xs
are_labels bits xs h e = let P : List ℕ → Type 0 = λ ys. AreLabels ys in subst P e (packed_labels bits h)

pub label_packed : (bits shift i : ℕ) (xs : List ℕ) → IsPacked bits → unpack 8 bits ≡ xs → shift + 16 * i ≡ 112 → bits / 2 ^ shift % 65536 ≡ get_or xs i 0
label_packed bits shift i xs h e s =
    let k = 7 - i in
    let position : shift ≡ 16 * k = omega (arith, s) in
    (λ j. number_is bits xs h e j / 2 ^ position j % 65536) ∙ pack_label 8 k xs i (omega (arith, s)) (are_labels bits xs h e)

pub first_packed : (bits : ℕ) (xs : List ℕ) → IsPacked bits → unpack 8 bits ≡ xs → bits / 2 ^ 112 ≡ get_or xs 0 0
first_packed bits xs h e = sym (mod-eq_of_lt (div_below bits (2 ^ 112) 65536 (pow_pos 112) h.small)) ∙ label_packed bits 112 0 xs h e refl

each_place : (xs : List ℕ) → length xs ≤ 8 → get_or xs 0 0 ∷ get_or xs 1 0 ∷ get_or xs 2 0 ∷ get_or xs 3 0 ∷ get_or xs 4 0 ∷ get_or xs 5 0 ∷ get_or xs 6 0 ∷ get_or xs 7 0 ∷ [] ≡ padded xs
each_place [] few = refl
each_place (a ∷ []) few = refl
each_place (a ∷ b ∷ []) few = refl
each_place (a ∷ b ∷ c ∷ []) few = refl
each_place (a ∷ b ∷ c ∷ d ∷ []) few = refl
each_place (a ∷ b ∷ c ∷ d ∷ e ∷ []) few = refl
each_place (a ∷ b ∷ c ∷ d ∷ e ∷ f ∷ []) few = refl
each_place (a ∷ b ∷ c ∷ d ∷ e ∷ f ∷ g ∷ []) few = refl
each_place (a ∷ b ∷ c ∷ d ∷ e ∷ f ∷ g ∷ h ∷ xs) few = refl

-- what stands at each position of a number
abbrev pub places_of : ℕ → List ℕ
places_of b = b / 2 ^ 112 ∷ b / 2 ^ 96 % 65536 ∷ b / 2 ^ 80 % 65536 ∷ b / 2 ^ 64 % 65536 ∷ b / 2 ^ 48 % 65536 ∷ b / 2 ^ 32 % 65536 ∷ b / 2 ^ 16 % 65536 ∷ b % 65536 ∷ []

pub padded_packed : (bits : ℕ) (xs : List ℕ) → IsPacked bits → unpack 8 bits ≡ xs → places_of bits ≡ padded xs
padded_packed bits xs h e =
    let at : (shift i : ℕ) → shift + 16 * i ≡ 112 → bits / 2 ^ shift % 65536 ≡ get_or xs i 0 = λ shift i s. label_packed bits shift i xs h e s in
    let last : bits % 65536 ≡ get_or xs 7 0 = ap (λ b. b % 65536) (omega arith) ∙ at 0 7 refl in
    let few : length xs ≤ 8 = omega (arith, h.face.few, ap length e) in
    (λ j. first_packed bits xs h e j ∷ at 96 1 refl j ∷ at 80 2 refl j ∷ at 64 3 refl j ∷ at 48 4 refl j ∷ at 32 5 refl j ∷ at 16 6 refl j ∷ last j ∷ []) ∙ each_place xs few

pub front_padded : (n m : ℕ) (xs : List ℕ) → length xs ≤ n → take (length xs) (take n (xs ++ replicate m 0)) ≡ xs
front_padded n m [] few = refl
front_padded zero m (y ∷ ys) few = absurd (omega (arith, few))
front_padded (suc n) m (y ∷ ys) few = ap (λ zs. y ∷ zs) (front_padded n m ys (omega arith))

none_same : (xs : List ℕ) → pointwise nat_eq xs [] ≡ nat_eq (length xs) 0
none_same [] = refl
none_same (x ∷ xs) = let t : nat_eq (length (x ∷ xs)) 0 ≡ false = grind (arith, nat_tests) in sym t

pub empty_packed : (bits : ℕ) (xs : List ℕ) → IsPacked bits → unpack 8 bits ≡ xs → nat_eq bits 0 ≡ nat_eq (length xs) 0
empty_packed bits xs h e = packed_same bits 0 xs [] (nat_eq bits 0) h none_packed e none_unpacked refl ∙ none_same xs
