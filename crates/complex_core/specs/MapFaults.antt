-- Why pairs are no map.
use Rattle.std.specs.Prelude.{◌≡◌, ℕ, ◌<◌, ◌||◌, Bool, true, List, length, take}
use Rattle.std.proofs.Common.{get_or}
use Rattle.complex_core.specs.Maps.{takes, reaches, Differ}
use Rattle.complex_core.specs.declared.map.MapFault.{MapFault}
use Rattle.complex_core.specs.declared.map.MapFault.TheVariants.{Twice, Memory}

-- whether the pair at a position has the first or the second number of an earlier pair
abbrev pub repeats : List (ℕ × ℕ) → ℕ → Bool
repeats pairs position = takes (take position pairs) (get_or pairs position (0, 0)).0 || reaches (take position pairs) (get_or pairs position (0, 0)).1

-- this is the first position whose pair does
pub record IsFirstTwice (pairs : List (ℕ × ℕ)) (position : ℕ) : Type 0 where
  pub inside : position < length pairs
  pub before : Differ (take position pairs)
  pub there : repeats pairs position ≡ true

abbrev pub PairsRefused : List (ℕ × ℕ) → MapFault → Type 0
PairsRefused pairs (Twice position) = IsFirstTwice pairs position
PairsRefused pairs Memory = Unit {0}
