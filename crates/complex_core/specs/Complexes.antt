-- A pure complex: its dimension, and the rising list of its facets, each a set of that many labels and one.
use Rattle.std.specs.Prelude.{◌≡◌, ℕ, ◌+◌, ◌≤◌, ◌<◌, ◌&&◌, not, Bool, nat_eq, List, length, filter}
use Rattle.std.specs.List.{list_any, AllByRecursion}
use Rattle.std.specs.List.Sorted.{IsStrictlySortedBy}
use Rattle.std.specs.Cmp.Lexicographic.{pointwise}
use Rattle.complex_core.specs.Labels.{IsFace, face_cmp, holds}

pub record ComplexView : Type 0 where
  pub dim : ℕ
  pub facets : List (List ℕ)

-- a set of d + 1 labels
pub record IsFacet (d : ℕ) (labels : List ℕ) : Type 0 where
  pub face : IsFace labels
  pub size : length labels ≡ d + 1

pub record IsComplex (k : ComplexView) : Type 0 where
  pub low : k.dim ≤ 6
  pub some : 0 < length k.facets
  pub rising : IsStrictlySortedBy face_cmp k.facets
  pub pure : AllByRecursion (IsFacet k.dim) k.facets

-- the facets that contain a set
abbrev pub over : List (List ℕ) → List ℕ → List (List ℕ)
over facets face = filter (λ f. holds f face) facets

-- the facets that don't contain a set
abbrev pub beside : List (List ℕ) → List ℕ → List (List ℕ)
beside facets face = filter (λ f. not (holds f face)) facets

-- whether some facet contains a set
abbrev pub is_held : List (List ℕ) → List ℕ → Bool
is_held facets face = list_any (λ f. holds f face) facets

abbrev pub is_face : List (List ℕ) → List ℕ → Bool
is_face facets face = not (nat_eq (length face) 0) && is_held facets face

-- whether a set is one of the facets
abbrev pub is_facet : List (List ℕ) → List ℕ → Bool
is_facet facets set = list_any (λ f. pointwise nat_eq f set) facets

-- the facets that are left when some are taken out
abbrev pub staying : List (List ℕ) → List (List ℕ) → List (List ℕ)
staying facets out = filter (λ f. not (is_facet out f)) facets
