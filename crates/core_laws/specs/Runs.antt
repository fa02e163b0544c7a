-- Any number of events, one after another.
use Rattle.std.specs.Prelude.{◌≡◌, ℕ, List, [], ◌∷◌, map, Result}
use Rattle.std.specs.List.{AllByRecursion}
use Rattle.complex_core.specs.Labels.{IsFace}
use Rattle.complex_core.specs.Complexes.{ComplexView, IsComplex}
use Rattle.core_laws.specs.declared.event.Event.{Event}
use Rattle.core_laws.specs.declared.event.Event.TheVariants as event
use Rattle.core_laws.specs.declared.event.Told.{Told}
use Rattle.core_laws.specs.declared.event.Refused.{Refused}
use Rattle.core_laws.specs.Cores.{Core, opened, complex_of}
use Rattle.core_laws.specs.Steps.{Step}
use Rattle.core_laws.specs.Serials.{Serial}

-- the two sides of a flip are faces
abbrev pub IsEvent : Event → Type 0
IsEvent (event.Flip worker f) = IsFace f.a × IsFace f.b
IsEvent other = Unit {0}

-- an event, its answer, and the core after it
pub record Turn : Type 0 where
  pub event : Event
  pub answer : Result Told Refused
  pub next : Core

-- each turn is a step from where the one before it ended
abbrev pub IsRun : Core → List Turn → Type 0
IsRun c [] = Unit {0}
IsRun c (t ∷ ts) = IsEvent t.event × Step c t.event t.answer t.next × IsRun t.next ts

-- from an opened core, over every list of events of any workers, the core is serial after each event
abbrev pub RunsAreSerial : Type 0
RunsAreSerial = (start : ComplexView) (places workers : ℕ) (turns : List Turn) → IsComplex start → IsRun (opened start places workers) turns → AllByRecursion (λ t. Serial t.next) turns

-- what a rollback leaves
pub record SameButPending (c next : Core) : Type 0 where
  pub journal : next.journal ≡ c.journal
  pub complex : complex_of next ≡ complex_of c
  pub owners : next.owners ≡ c.owners

-- a rollback leaves no trace: journal, complex and owners stay
abbrev pub RollbacksLeaveNoTrace : Type 0
RollbacksLeaveNoTrace = (c next : Core) (worker : ℕ) (answer : Result Told Refused) → Step c (event.Rollback worker) answer next → SameButPending c next

-- an event has one answer, and leads to one core
abbrev pub StepIsOne : Type 0
StepIsOne = (c n m : Core) (e : Event) (a b : Result Told Refused) → Step c e a n → Step c e b m → (a ≡ b) × (n ≡ m)

-- so two runs from the same core over the same events are the same
abbrev pub RunsAreOne : Type 0
RunsAreOne = (c : Core) (ts us : List Turn) → IsRun c ts → IsRun c us → map (λ (t : Turn). t.event) ts ≡ map (λ (t : Turn). t.event) us → ts ≡ us
