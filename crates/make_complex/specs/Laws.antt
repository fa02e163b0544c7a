-- The laws of the named complexes, and of the labels that draws bring in.
use Rattle.std.specs.Prelude.{◌≡◌, ◌≤◌, ◌<◌, ◌+◌, ℕ, true, false, List, length}
use Rattle.complex_core.specs.Labels.{has}
use Rattle.complex_core.specs.Maps.{used}
use Rattle.complex_core.specs.Complexes.{ComplexView, IsComplex}
use Rattle.make_complex.specs.Draws.{least_unused}

-- a label that no facet has, and each label below it is used
pub record IsLeastUnused (facets : List (List ℕ)) (label : ℕ) : Type 0 where
  pub low : 0 < label
  pub unused : has (used facets) label ≡ false
  pub least : (x : ℕ) → 0 < x → x < label → has (used facets) x ≡ true
  pub near : label ≤ length (used facets) + 1

abbrev pub LeastUnused : Type 0
LeastUnused = (k : ComplexView) → IsComplex k → IsLeastUnused k.facets (least_unused k.facets)
