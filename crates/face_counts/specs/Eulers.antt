-- The Euler characteristic, as a sum over the faces and by their numbers.
use Rattle.std.specs.Prelude.{ℕ, zero, suc, Bool, false, not, cond, List, [], ◌∷◌, length}
use lib.IntN.{ℤ, pos, negsuc, ◌+ℤ◌, neg_ℤ}
use Rattle.face_counts.specs.Faces.{faces, number}

abbrev pub odd : ℕ → Bool
odd zero = false
odd (suc n) = not (odd n)

-- the sum of the values of some sets
abbrev pub total : (List ℕ → ℤ) → List (List ℕ) → ℤ
total value [] = pos 0
total value (s ∷ rest) = value s +ℤ total value rest

-- 1 for an odd number of labels, else -1
abbrev pub sign : List ℕ → ℤ
sign s = cond (odd (length s)) (pos 1) (negsuc 0)

-- the sum of the signs of the faces
abbrev pub euler : List (List ℕ) → ℤ
euler facets = total sign (faces facets)

-- (-1)^n
abbrev pub power : ℕ → ℤ
power n = cond (odd n) (negsuc 0) (pos 1)

-- n, or -n
abbrev pub signed : Bool → ℕ → ℤ
signed minus n = cond minus (neg_ℤ (pos n)) (pos n)

-- the sum of (-1)^j f_j for j below n
abbrev pub alternating : List (List ℕ) → ℕ → ℤ
alternating sets zero = pos 0
alternating sets (suc n) = alternating sets n +ℤ signed (odd n) (number sets n)
