-- In how many facets a label lies.
use Rattle.std.specs.Prelude.{◌≡◌, ℕ, List, length, filter}
use Rattle.std.proofs.Common.{get_or}
use Rattle.complex_core.specs.Labels.{has}

abbrev pub degree : List (List ℕ) → ℕ → ℕ
degree facets x = length (filter (λ f. has f x) facets)

-- the degree of each label at its place
pub record HasDegrees (facets : List (List ℕ)) (degrees : List ℕ) : Type 0 where
  pub all : length degrees ≡ 65536
  pub each : (x : ℕ) → get_or degrees x 0 ≡ degree facets x
