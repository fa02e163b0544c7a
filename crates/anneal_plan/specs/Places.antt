-- The places of a search, which are the labels from 1 on: those in use when a round starts, and the others.
use Rattle.std.specs.Prelude.{ℕ, List, filter, not}
use Rattle.complex_core.specs.Labels.{has}
use Rattle.complex_core.specs.Maps.{used, next_after}

-- the places from 1 that no facet has, rising
abbrev pub free_of : List (List ℕ) → ℕ → List ℕ
free_of facets places = filter (λ x. not (has (used facets) x)) (next_after 0 places)
