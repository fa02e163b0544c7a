-- Why it isn't told whether a map takes one complex to another.
use Rattle.std.specs.Prelude.{◌≡◌, ◌⊎◌, ℕ}
use Rattle.complex_core.specs.Complexes.{ComplexView}
use Rattle.facet_iso.specs.Isomorphisms.{IsFit}
use Rattle.facet_iso.specs.declared.least_map.IsoFault.{IsoFault}
use Rattle.facet_iso.specs.declared.least_map.IsoFault.TheVariants.{Unfit, Memory}

-- this is the number of the first of two complexes that isn't fit
abbrev pub IsFirstUnfit : ComplexView → ComplexView → ℕ → Type 0
IsFirstUnfit k l which = ((which ≡ 1) × (IsFit k → ⊥)) ⊎ ((which ≡ 2) × IsFit k × (IsFit l → ⊥))

abbrev pub IsoRefused : ComplexView → ComplexView → IsoFault → Type 0
IsoRefused k l (Unfit which) = IsFirstUnfit k l which
IsoRefused k l Memory = Unit {0}
