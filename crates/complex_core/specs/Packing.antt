-- A number gives its labels, and the labels give the number back.
use Rattle.std.proofs.Common.{◌≡◌, ℕ, zero, suc, ◌+◌, ◌*◌, ◌/◌, ◌%◌, ◌^◌, ◌<◌, true, false, cond, nat_eq, List, [], ◌∷◌, sym, ◌∙◌, ap, refl, arith}
use Rattle.std.proofs.lemmas.Nat.{pow_pos, pow-add, div-add-mod', mod_below}
use Rattle.std.proofs.lemmas.Bool.Decides.{nat_tests}
use Rattle.std.specs.Cmp.Lexicographic.{pointwise, bytes_decides}
use Rattle.std.specs.Hash as fed
use Rattle.complex_core.specs.Packed.{weight, pack, unpack, IsPacked}

pub weight_next : (n : ℕ) → weight (suc n) ≡ 65536 * weight n
weight_next n = let e : 16 * suc n ≡ 16 + 16 * n = omega arith in ap (λ k. 2 ^ k) e ∙ pow-add 2 16 (16 * n)

pub weight_pos : (n : ℕ) → 0 < weight n
weight_pos n = pow_pos (16 * n)

pub pack_unpack : (n bits : ℕ) → bits < weight n → pack n (unpack n bits) ≡ bits
unfolding pack unpack
pack_unpack zero bits h = omega arith
pack_unpack (suc n) bits h =
    let m : bits % weight n < weight n = mod_below bits (weight n) (weight_pos n) in
    let ih : pack n (unpack n (bits % weight n)) ≡ bits % weight n = pack_unpack n (bits % weight n) m in
    elim (nat_eq bits 0) as (λ b. nat_eq bits 0 ≡ b → pack (suc n) (cond b [] (bits / weight n ∷ unpack n (bits % weight n))) ≡ bits) [
      | true ↦ λ e. let z : bits ≡ 0 = grind (arith, nat_tests) in sym z
      | false ↦ λ e. ap (λ k. bits / weight n * weight n + k) ih ∙ div-add-mod' bits (weight n)
    ] refl

pub bits_back : (bits : ℕ) → IsPacked bits → pack 8 (unpack 8 bits) ≡ bits
bits_back bits h = pack_unpack 8 bits h.small

-- equal faces feed a hasher alike
pub same_input : (xs ys : List ℕ) → pointwise nat_eq xs ys ≡ true → fed.u128 (pack 8 xs) ≡ fed.u128 (pack 8 ys)
same_input xs ys h = ap (λ zs. fed.u128 (pack 8 zs)) ((bytes_decides xs ys).0 h)
