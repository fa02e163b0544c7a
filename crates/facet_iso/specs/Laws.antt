-- What an ordered image says of a map.
use Rattle.std.specs.Prelude.{◌≡◌, ℕ, true, List}
use Rattle.complex_core.specs.Labels.{has}
use Rattle.complex_core.specs.Complexes.{ComplexView, IsComplex}
use Rattle.complex_core.specs.Maps.{at, used}
use Rattle.facet_iso.specs.Isomorphisms.{IsFit, IsLeastMap, Takes, ordered_image}

-- two maps from K to L with one ordered image are one on the labels of K
abbrev pub OrderedImageDetermines : Type 0
OrderedImageDetermines = (k l : ComplexView) (m n : List (ℕ × ℕ)) → IsComplex k → IsComplex l → IsFit k → IsFit l → Takes k l m → Takes k l n → ordered_image k m ≡ ordered_image k n → (x : ℕ) → has (used k.facets) x ≡ true → at m x ≡ at n x

-- there is at most one least map from K to L
abbrev pub OneLeastMap : Type 0
OneLeastMap = (k l : ComplexView) (m n : List (ℕ × ℕ)) → IsComplex k → IsComplex l → IsFit k → IsFit l → IsLeastMap k l m → IsLeastMap k l n → m ≡ n
