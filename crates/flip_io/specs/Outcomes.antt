-- What reading all and writing all leave.
use Rattle.std.specs.Prelude.{◌≡◌, ℕ, ◌+◌, ◌≤◌, List, length, take}
use Rattle.std.specs.declared.option.Option.{Option}
use Rattle.std.specs.Io.KnownBytes.{Consumes, Appends, IsAtEnd}
use Rattle.flip_io.specs.Causes.{Rose}
use Rattle.flip_io.specs.declared.whole.ReadAllFault.{ReadAllFault}
use Rattle.flip_io.specs.declared.whole.ReadAllFault.TheVariants.{Fault, TooLong, Memory}

-- all known bytes were taken, and they are bs
pub record TakesAll (old new : Option (List ℕ)) (bs : List ℕ) : Type 0 where
  pub taken : Consumes old new bs
  pub ended : IsAtEnd new

-- n bytes were taken
abbrev pub TakesCount : Option (List ℕ) → Option (List ℕ) → ℕ → Type 0
TakesCount old new n = (bs : List ℕ) × (length bs ≡ n) × Consumes old new bs

-- at most n bytes were taken, so what is left is the end of what was left
abbrev pub TakesAtMost : Option (List ℕ) → Option (List ℕ) → ℕ → Type 0
TakesAtMost old new n = (bs : List ℕ) × (length bs ≤ n) × Consumes old new bs

-- when each fault of reading all comes
abbrev pub ReadAllCause : ℕ → ℕ → ℕ → Option (List ℕ) → Option (List ℕ) → ReadAllFault → Type 0
ReadAllCause limit before now old new Fault = Rose before now
ReadAllCause limit before now old new (TooLong n) = (n ≡ limit) × TakesCount old new (limit + 1)
ReadAllCause limit before now old new Memory = Unit {0}

-- what each fault of reading all has taken: one byte above the limit where it was too long, else no byte above it
abbrev pub ReadAllTakes : ℕ → Option (List ℕ) → Option (List ℕ) → ReadAllFault → Type 0
ReadAllTakes limit old new Fault = TakesAtMost old new limit
ReadAllTakes limit old new (TooLong n) = TakesCount old new (limit + 1)
ReadAllTakes limit old new Memory = TakesAtMost old new limit

-- the first bytes of bs were written
abbrev pub AppendsPrefix : Option (List ℕ) → Option (List ℕ) → List ℕ → Type 0
AppendsPrefix old new bs = (n : ℕ) × (n ≤ length bs) × Appends old new (take n bs)
