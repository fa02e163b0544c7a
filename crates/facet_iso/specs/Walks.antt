-- Walks over ridges that reach each facet of a complex by one step.
use Rattle.std.specs.Prelude.{◌≡◌, ◌≢◌, ◌≤◌, ◌<◌, ◌+◌, true, false, ℕ, List, [], length}
use Rattle.std.proofs.Common.{get_or}
use Rattle.complex_core.specs.Labels.{has, with, without}
use Rattle.complex_core.specs.Complexes.{ComplexView, is_facet}
use Rattle.facet_iso.specs.declared.walk.Step.{Step}
use Rattle.facet_iso.specs.Isomorphisms.{least_facet}

-- what is left isn't reached
abbrev pub Apart : List (List ℕ) → List (List ℕ) → Type 0
Apart reached left = (g : List ℕ) → is_facet left g ≡ true → is_facet reached g ≡ false

-- the step leads from one of the facets up to a position to the next one, over a ridge
pub record IsStep (reached : List (List ℕ)) (position : ℕ) (step : Step) : Type 0 where
  pub earlier : step.from ≤ position
  pub used : has (get_or reached step.from []) step.left ≡ true
  pub to : get_or reached (position + 1) [] ≡ with (without (get_or reached step.from []) step.left) step.taken
  pub other : get_or reached (position + 1) [] ≢ get_or reached step.from []

-- each step leads to the next facet
pub record Leads (reached : List (List ℕ)) (steps : List Step) : Type 0 where
  pub long : length reached ≡ length steps + 1
  pub each : (position : ℕ) (none : Step) → position < length steps → IsStep reached position (get_or steps position none)

-- steps from the least facet to all others
pub record IsWalk (k : ComplexView) (steps : List Step) : Type 0 where
  pub reached : List (List ℕ)
  pub begins : get_or reached 0 [] ≡ least_facet k
  pub leads : Leads reached steps
  pub all : (f : List ℕ) → is_facet reached f ≡ is_facet k.facets f
