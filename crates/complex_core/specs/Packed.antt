-- Labels in one number: sixteen bits for each position, the first label highest, zeros behind the last.
use Rattle.std.proofs.Common.{ℕ, zero, suc, ◌+◌, ◌*◌, ◌/◌, ◌%◌, ◌^◌, ◌<◌, cond, nat_eq, List, [], ◌∷◌}
use Rattle.complex_core.specs.Labels.{IsFace}

-- what a label counts before n further places
abbrev pub weight : ℕ → ℕ
weight n = 2 ^ (16 * n)

unfoldable pub pack : ℕ → List ℕ → ℕ
pack zero xs = 0
pack (suc n) [] = 0
pack (suc n) (x ∷ xs) = x * weight n + pack n xs

-- the labels, until only zeros are left
unfoldable pub unpack : ℕ → ℕ → List ℕ
unpack zero bits = []
unpack (suc n) bits = cond (nat_eq bits 0) [] (bits / weight n ∷ unpack n (bits % weight n))

-- it packs a face
pub record IsPacked (bits : ℕ) : Type 0 where
  pub small : bits < 2 ^ 128
  pub face : IsFace (unpack 8 bits)
