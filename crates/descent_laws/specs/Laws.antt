-- The laws of descents.
use Rattle.std.specs.Prelude.{◌≡◌, ◌+◌, ◌<◌, ◌≤◌, ◌⊎◌, List, [], ◌∷◌, length, Some}
use Rattle.std.specs.List.{AllByRecursion}
use Rattle.complex_core.specs.Complexes.{ComplexView, IsComplex}
use Rattle.flip_rules.specs.Boundaries.{IsBoundary}
use Rattle.flip_rules.specs.Flips.{OfFaces, flipped, replay}
use Rattle.flip_rules.specs.declared.flip.Flip.{Flip}
use Rattle.pseudo_test.specs.Ridges.{Closed}
use Rattle.pseudo_test.specs.Chains.{StronglyConnected}
use Rattle.descent_laws.specs.Descents.{IsReducing, IsMinimal, IsBest, IsDescent, AreCandidates}

-- ---- one flip

-- A determines B
abbrev pub FirstDetermines : Type 0
FirstDetermines = (k : ComplexView) (f g : Flip) → IsReducing k f → IsReducing k g → f.a ≡ g.a → f ≡ g

-- a complex has one best flip at most
abbrev pub BestIsOne : Type 0
BestIsOne = (k : ComplexView) (f g : Flip) → IsBest k f → IsBest k g → f ≡ g

-- the flip leaves fewer facets
abbrev pub FlipFalls : Type 0
FlipFalls = (k : ComplexView) (f : Flip) → IsReducing k f → length (flipped k f.a f.b).facets < length k.facets

-- ---- all of them

-- a complex has one list of candidates at most
abbrev pub CandidatesAreOne : Type 0
CandidatesAreOne = (k : ComplexView) (fs gs : List Flip) → AreCandidates k fs → AreCandidates k gs → fs ≡ gs

-- its first is the best flip
abbrev pub FirstIsBest : Type 0
FirstIsBest = (k : ComplexView) (f : Flip) (fs : List Flip) → AreCandidates k (f ∷ fs) → IsBest k f

-- where it has none, the complex is minimal
abbrev pub NoneIsMinimal : Type 0
NoneIsMinimal = (k : ComplexView) → AreCandidates k [] → IsMinimal k

-- ---- descents

-- a complex has one descent at most, with one end
abbrev pub DescentIsOne : Type 0
DescentIsOne = (k m n : ComplexView) (fs gs : List Flip) → IsDescent k fs m → IsDescent k gs n → (fs ≡ gs) × (m ≡ n)

-- what a descent shows
pub record Descends (k : ComplexView) (flips : List Flip) (end : ComplexView) : Type 0 where
  pub replays : replay k flips ≡ Some end
  pub faces : AllByRecursion OfFaces flips
  pub minimal : IsMinimal end
  pub falls : length flips + length end.facets ≤ length k.facets

abbrev pub DescentDescends : Type 0
DescentDescends = (k m : ComplexView) (fs : List Flip) → IsDescent k fs m → Descends k fs m

-- ---- dimension 1

-- closed and strongly connected, of dimension 1
pub record IsCycle (k : ComplexView) : Type 0 where
  pub complex : IsComplex k
  pub dim : k.dim ≡ 1
  pub closed : Closed k.facets
  pub strong : StronglyConnected k.facets

-- such a complex is the boundary of a simplex, or some flip of index 1 is legal
abbrev pub CycleReduces : Type 0
CycleReduces = (k : ComplexView) → IsCycle k → IsBoundary k ⊎ ((f : Flip) × IsReducing k f × (length f.b ≡ 2))

-- so its descent ends in the boundary of a simplex
abbrev pub CycleEnds : Type 0
CycleEnds = (k m : ComplexView) (fs : List Flip) → IsCycle k → IsDescent k fs m → IsBoundary m
