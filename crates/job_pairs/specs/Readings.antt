-- What the bytes of an input tell: two complexes that are fit for a job, or why they are none.
use Rattle.std.specs.Prelude.{◌≡◌, ◌⊎◌, ℕ, List, Result, Ok, Err}
use Rattle.complex_core.specs.Complexes.{ComplexView}
use Rattle.job_answer.specs.Alone.{Two, complexes_of}
use Rattle.job_answer.specs.declared.fault.Fault.{Fault}
use Rattle.job_answer.specs.declared.fault.Fault.TheVariants.{Unfit}

abbrev pub Pair : Type 0
Pair = ComplexView × ComplexView

-- this is the number of the first of two complexes that isn't fit
abbrev pub IsFirstUnfit : (ComplexView → Type 0) → Pair → ℕ → Type 0
IsFirstUnfit Fit read which = ((which ≡ 1) × (Fit read.0 → ⊥)) ⊎ ((which ≡ 2) × Fit read.0 × (Fit read.1 → ⊥))

-- these two, which are both fit
pub record AreFit (Fit : ComplexView → Type 0) (read told : Pair) : Type 0 where
  pub same : read ≡ told
  pub first : Fit read.0
  pub second : Fit read.1

-- the number of the first of the two that isn't fit
pub record TellsUnfit (Fit : ComplexView → Type 0) (read : Pair) (fault : Fault) : Type 0 where
  pub which : ℕ
  pub unfit : IsFirstUnfit Fit read which
  pub says : fault ≡ Unfit which

-- two complexes are told where both are fit; else their first fault is told, and behind all others that one isn't fit
abbrev pub reads_fit : (ComplexView → Type 0) → Two → Result Pair Fault → Type 0
reads_fit Fit (Ok read) (Ok told) = AreFit Fit read told
reads_fit Fit (Ok read) (Err e) = TellsUnfit Fit read e
reads_fit Fit (Err f) r = Err f ≡ r

abbrev pub reads : (ComplexView → Type 0) → List ℕ → Result Pair Fault → Type 0
reads Fit bytes = reads_fit Fit (complexes_of bytes)
