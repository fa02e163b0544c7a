-- What is reached over a ridge.
use Rattle.std.specs.Prelude.{◌≡◌, ℕ, ◌+◌, Bool, not, ◌&&◌, if◌then◌else◌, List, [], ◌++◌, length}
use Rattle.complex_core.specs.Complexes.{is_facet}

-- the sets of a list that are left went behind those that are reached
pub record Moved (run reached left now_reached now_left : List (List ℕ)) : Type 0 where
  pub more : List (List ℕ)
  pub grows : now_reached ≡ reached ++ more
  pub gone : (f : List ℕ) → is_facet now_left f ≡ (is_facet left f && not (is_facet run f))
  pub comes : (f : List ℕ) → is_facet more f ≡ (is_facet left f && is_facet run f)
  pub total : length now_reached + length now_left ≡ length reached + length left

-- the facets over a ridge, or none where the ridge was seen before
abbrev pub over_new : Bool → List (List ℕ) → List (List ℕ)
over_new seen run = if seen then [] else run
