-- What a draw chooses.
use Rattle.std.specs.Prelude.{◌≡◌, true, ℕ, ◌+◌, ◌-◌, ◌≤◌, List, length}
use Rattle.complex_core.specs.Labels.{IsFace, holds}
use Rattle.complex_core.specs.Complexes.{ComplexView, is_facet}

-- a part of d + 1 - i labels of a facet, for an index i from 0 to d
pub record IsSubfacet (k : ComplexView) (i : ℕ) (part : List ℕ) : Type 0 where
  pub index : i ≤ k.dim
  pub face : IsFace part
  pub size : length part ≡ k.dim + 1 - i
  pub facet : List ℕ
  pub there : is_facet k.facets facet ≡ true
  pub inside : holds facet part ≡ true
