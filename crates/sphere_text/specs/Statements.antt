-- What a descent on the places of a complex shows of the complex, in its own labels.
use Rattle.std.specs.Prelude.{◌≡◌, ◌≤◌, true, ℕ, List, length, Some}
use Rattle.std.specs.List.{AllByRecursion}
use Rattle.complex_core.specs.Maps.{renamed, names_of, turned}
use Rattle.complex_core.specs.Complexes.{ComplexView}
use Rattle.facet_text.specs.Writing.{KeepsLimits}
use Rattle.cert_text.specs.Writing.{AreFlips}
use Rattle.flip_rules.specs.Flips.{OfFaces, replay}
use Rattle.flip_rules.specs.Boundaries.{IsBoundary}
use Rattle.flip_rules.specs.Certificates.{SphereCert}
use Rattle.flip_rules.specs.declared.flip.Flip.{Flip}
use Rattle.flip_names.specs.Names.{named_flips, takes_flips}
use Rattle.flip_laws.specs.Obstacles.{LooksLikeSphere}
use Rattle.descent_laws.specs.Descents.{IsMinimal, IsDescent}
use Rattle.descent_laws.specs.Laws.{IsCycle}

-- the complex on the places of its labels
abbrev pub placed : ComplexView → ℕ → ComplexView
placed k room = renamed k (turned (names_of k.facets room))

-- the flips in the labels of the complex
abbrev pub named : ComplexView → ℕ → List Flip → List Flip
named k room flips = named_flips (names_of k.facets room) flips

-- The flips are legal in order from the complex on its places, which is the complex under their names, and lead to this end, on
-- which no legal flip has an index above d/2. Each of their labels has a name, and under the names they are a certificate of the
-- complex where the end is the boundary of a simplex.
pub record IsShown (k : ComplexView) (room : ℕ) (flips : List Flip) (end : ComplexView) : Type 0 where
  pub start : renamed (placed k room) (names_of k.facets room) ≡ k
  pub replays : replay (placed k room) flips ≡ Some end
  pub minimal : IsMinimal end
  pub faces : AllByRecursion OfFaces flips
  pub taken : takes_flips (names_of k.facets room) flips ≡ true
  pub few : length flips ≤ length k.facets
  pub fit : AreFlips (named k room flips)
  pub certificate : IsBoundary end → SphereCert k (named k room flips)

-- so it is with a descent
abbrev pub DescentIsShown : Type 0
DescentIsShown = (k : ComplexView) (room : ℕ) (flips : List Flip) (end : ComplexView) → KeepsLimits k → room ≤ 1024 → IsDescent (placed k room) flips end → IsShown k room flips end

-- a closed and strongly connected complex of dimension 1 lacks no fact of a sphere, and each descent on its places ends in the
-- boundary of a simplex
pub record IsDecided (k : ComplexView) : Type 0 where
  pub looks : LooksLikeSphere k
  pub ends : (room : ℕ) (flips : List Flip) (end : ComplexView) → IsDescent (placed k room) flips end → IsBoundary end

abbrev pub CycleIsDecided : Type 0
CycleIsDecided = (k : ComplexView) → IsCycle k → IsDecided k
