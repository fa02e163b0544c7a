-- A trace while it runs.
use Rattle.std.specs.Prelude.{◌≡◌, true, ℕ, Bool, List, [], ◌∷◌, ◌++◌, map, codes, Result}
use Rattle.std.specs.List.{list_all}
use Rattle.std.specs.Fmt.{decimal}
use Rattle.complex_core.specs.Maps.{takes}
use Rattle.core_laws.specs.declared.event.Event.{Event}
use Rattle.core_laws.specs.declared.event.Event.TheVariants as event
use Rattle.core_laws.specs.declared.event.Told.{Told}
use Rattle.core_laws.specs.declared.event.Refused.{Refused}
use Rattle.core_laws.specs.Cores.{Core}
use Rattle.core_laws.specs.Steps.{Step}
use Rattle.core_laws.specs.Runs.{Turn, IsRun}
use Rattle.trace_text.specs.Traces.{Trace, names}
use Rattle.job_trace.specs.TraceTexts.{answer_line, answer_lines}
use Rattle.job_trace.specs.Traced.{placed, opened_for, end_of, is_told}

-- the first line of an entry
abbrev pub entry_line : ℕ → ℕ → ℕ → List ℕ
entry_line worker seq flips = codes "entry worker " ++ (decimal worker ++ (codes " seq " ++ (decimal seq ++ (codes " flips " ++ (decimal flips ++ 10 ∷ [])))))

-- each label of the event's flip, if it has one, has a place
abbrev pub HasPlaces : List (ℕ × ℕ) → Event → Type 0
HasPlaces places (event.Flip worker f) = (list_all (takes places) f.a ≡ true) × (list_all (takes places) f.b ≡ true)
HasPlaces places other = Unit {0}

-- the answer to an event, the core after it, and its line behind the earlier text
pub record IsTurn (names : List (ℕ × ℕ)) (number : ℕ) (c : Core) (e : Event) (next : Core) (accepted : Bool) (old new : List ℕ) : Type 0 where
  pub answer : Result Told Refused
  pub step : Step c e answer next
  pub accepted_is : accepted ≡ is_told answer
  pub says : new ≡ old ++ answer_line names number answer

-- events of a trace were run, one after another: whether each was accepted, the lines of the refused ones, and the core after
-- them
pub record HasRun (t : Trace) (events : List Event) (accepted : Bool) (text : List ℕ) (last : Core) : Type 0 where
  pub turns : List Turn
  pub events_are : map (λ (u : Turn). u.event) turns ≡ map (placed (names t)) events
  pub run : IsRun (opened_for t) turns
  pub last_is : last ≡ end_of (opened_for t) turns
  pub accepted_is : accepted ≡ list_all (λ (u : Turn). is_told u.answer) turns
  pub says : text ≡ answer_lines (names t) 1 turns
