-- What a trace is: events of workers on a complex, in the labels of its text.
use Rattle.std.specs.Prelude.{◌≡◌, true, ℕ, ◌≤◌, ◌<◌, Bool, List, length, ◌⊎◌}
use Rattle.std.specs.List.{AllByRecursion}
use Rattle.complex_core.specs.Labels.{IsFace}
use Rattle.complex_core.specs.Complexes.{ComplexView}
use Rattle.complex_core.specs.Maps.{names_of, reaches}
use Rattle.core_laws.specs.declared.event.Event.{Event}
use Rattle.core_laws.specs.declared.event.Event.TheVariants as event
use Rattle.core_laws.specs.Steps.{worker_of}

-- a complex, how many workers there are, how many spare labels, and events in the labels of the complex
pub record Trace : Type 0 where
  pub start : ComplexView
  pub workers : ℕ
  pub room : ℕ
  pub events : List Event

-- the names of the places: the labels that the complex uses, rising, and the spare ones after its greatest
abbrev pub names : Trace → List (ℕ × ℕ)
names t = names_of t.start.facets t.room

-- a label that is used or spare: some place has this name
abbrev pub is_name : Trace → ℕ → Bool
is_name t label = reaches (names t) label

-- 0 for the journal, or a label
abbrev pub IsPlaceName : Trace → ℕ → Type 0
IsPlaceName t p = (p ≡ 0) ⊎ (is_name t p ≡ true)

-- a side of a flip: 1 to 7 labels
pub record IsNamedSide (t : Trace) (labels : List ℕ) : Type 0 where
  pub face : IsFace labels
  pub some : 0 < length labels
  pub few : length labels ≤ 7
  pub known : AllByRecursion (λ x. is_name t x ≡ true) labels

-- the labels of an event are used or spare
abbrev pub IsNamed : Trace → Event → Type 0
IsNamed t (event.Claim worker place) = IsPlaceName t place
IsNamed t (event.Flip worker f) = IsNamedSide t f.a × IsNamedSide t f.b
IsNamed t (event.Rollback worker) = Unit {0}
IsNamed t (event.Commit worker) = Unit {0}
IsNamed t (event.Release worker place) = IsPlaceName t place

-- its worker has a number from 1 to 16, also where the trace has fewer workers
pub record IsTraceEvent (t : Trace) (e : Event) : Type 0 where
  pub low : 1 ≤ worker_of e
  pub high : worker_of e ≤ 16
  pub named : IsNamed t e
