-- The text of a trace, by cases on whole words and line ends: what it tells, or the first fault from left to right.
use Rattle.std.specs.Prelude.{◌==◌, ◌||◌, ℕ, Bool, not, List, [], ◌∷◌, ◌++◌, Result, Ok, Err, codes, if◌then◌else◌}
use Rattle.std.specs.Str.{bytes_eq}
use Rattle.std.specs.Str.Parse.{digits_value}
use Rattle.complex_core.specs.Maps.{names_of, pair_cmp, turned}
use Rattle.complex_core.specs.Rising.{rising}
use Rattle.complex_core.specs.Complexes.{ComplexView}
use Rattle.facet_text.specs.declared.fault.TextFault.{TextFault}
use Rattle.facet_text.specs.Grammar.{complex_at}
use Rattle.facet_text.specs.Lines.{Item, items, line_end, word}
use Rattle.facet_text.specs.Tokens.{between}
use Rattle.core_laws.specs.declared.event.Event.{Event}
use Rattle.core_laws.specs.declared.event.Event.TheVariants as event
use Rattle.line_text.specs.declared.fault.LineFault.{LineFault}
use Rattle.line_text.specs.declared.fault.LineFault.TheVariants as line_fault
use Rattle.line_text.specs.declared.label.Labels.{Labels}
use Rattle.line_text.specs.declared.label.Labels.TheVariants.{Of}
use Rattle.line_text.specs.Flips.{flip_at}
use Rattle.line_text.specs.Labels.{allows}
use Rattle.line_text.specs.Numbers.{end_at, is_number, line_start}
use Rattle.trace_text.specs.declared.fault.TraceFault.{TraceFault}
use Rattle.trace_text.specs.declared.fault.TraceFault.TheVariants as fault
use Rattle.trace_text.specs.Traces.{Trace}

-- what is read, or the first fault
abbrev pub Reading : Type 0 → Type 0
Reading X = Result X TraceFault

-- a part of a line and the items after it, or the first fault
abbrev pub Part : Type 0 → Type 0
Part X = Reading (X × List Item)

-- what follows on what was read, unless that has a fault
abbrev pub after : {X Y : Type 0} → Reading X → (X → Reading Y) → Reading Y
after (Ok x) next = next x
after (Err e) next = Err e

-- a fault of a line keeps its place
abbrev pub of_line : LineFault → TraceFault
of_line (line_fault.Syntax at) = fault.Syntax at
of_line (line_fault.Label at) = fault.Label at

abbrev pub in_line : {X : Type 0} → Result X LineFault → Reading X
in_line (Ok x) = Ok x
in_line (Err e) = Err (of_line e)

abbrev pub in_complex : {X : Type 0} → Result X TextFault → Reading X
in_complex (Ok x) = Ok x
in_complex (Err e) = Err (fault.Complex e)

-- ---- parts of lines (no list of items is empty)

-- a number from 1 to so many
unfoldable pub count_from : ℕ → List Item → Part ℕ
count_from most [] = Err (fault.Syntax 0)
count_from most (line_end at ∷ is) = Err (fault.Syntax at)
count_from most (word text at ∷ is) =
    if not (is_number text) then Err (fault.Syntax at)
    else if not (between 1 most (digits_value 10 text)) then Err (fault.Number at)
    else Ok (digits_value 10 text, is)

-- the labels that have places (where their map lies plays no part)
abbrev pub labels_of : List (ℕ × ℕ) → Labels
labels_of places = Of (record { ref_ptr = (0, 0); now = places })

-- 0 for the journal, or a label that has a place
unfoldable pub is_place : List (ℕ × ℕ) → ℕ → Bool
is_place places n = n == 0 || allows (labels_of places) n

-- a place
unfoldable pub place_from : List (ℕ × ℕ) → List Item → Part ℕ
place_from places [] = Err (fault.Syntax 0)
place_from places (line_end at ∷ is) = Err (fault.Syntax at)
place_from places (word text at ∷ is) =
    if not (is_number text) then Err (fault.Syntax at)
    else if not (is_place places (digits_value 10 text)) then Err (fault.Label at)
    else Ok (digits_value 10 text, is)

-- what was read, where the line ends after it; the line's end stays
unfoldable pub ended : {X : Type 0} → Part X → Part X
ended part = after part (λ x. after (in_line (end_at x.1)) (λ is. Ok (x.0, is)))

-- a word and a number from 1 to so many, on a line of their own
unfoldable pub stated : List ℕ → ℕ → List Item → Part ℕ
stated name most [] = Err (fault.Syntax 0)
stated name most (line_end at ∷ is) = Err (fault.Syntax at)
stated name most (word text at ∷ is) = if bytes_eq text name then ended (count_from most is) else Err (fault.Syntax at)

-- ---- events

-- W
unfoldable pub of_worker : (ℕ → Event) → List Item → Part Event
of_worker make is = ended (after (count_from 16 is) (λ w. Ok (make w.0, w.1)))

-- W P
unfoldable pub of_place : (ℕ → ℕ → Event) → List (ℕ × ℕ) → List Item → Part Event
of_place make places is =
    ended (after (count_from 16 is) (λ w. after (place_from places w.1) (λ p. Ok (make w.0 p.0, p.1))))

-- W A | B
unfoldable pub of_flip : List (ℕ × ℕ) → List Item → Part Event
of_flip places is =
    ended (after (count_from 16 is) (λ w. after (in_line (flip_at (labels_of places) w.1)) (λ f. Ok (event.Flip w.0 f.0, f.1))))

-- the event on a line that begins with this word at its place; the line's end stays
unfoldable pub event_on : List (ℕ × ℕ) → List ℕ → ℕ → List Item → Part Event
event_on places text at is =
    if bytes_eq text (codes "claim") then of_place event.Claim places is
    else if bytes_eq text (codes "flip") then of_flip places is
    else if bytes_eq text (codes "rollback") then of_worker event.Rollback is
    else if bytes_eq text (codes "commit") then of_worker event.Commit is
    else if bytes_eq text (codes "release") then of_place event.Release places is
    else Err (fault.Syntax at)

-- After the events so far, any number of lines.
unfoldable mutual
  -- a line begins
  pub events_from : List (ℕ × ℕ) → List Event → List Item → Reading (List Event)
  events_from places events [] = Ok events
  events_from places events (line_end at ∷ is) = events_from places events is
  events_from places events (word text at ∷ is) =
      after (event_on places text at is) (λ e. events_past places (events ++ e.0 ∷ []) is)

  -- the rest of a line that was read is passed over
  pub events_past : List (ℕ × ℕ) → List Event → List Item → Reading (List Event)
  events_past places events [] = Ok events
  events_past places events (line_end at ∷ is) = events_from places events is
  events_past places events (word text at ∷ is) = events_past places events is

-- ---- the whole

-- each label that is used or spare, with its place
abbrev pub places_in : ComplexView → ℕ → List (ℕ × ℕ)
places_in k room = rising pair_cmp (turned (names_of k.facets room))

-- the lines after a complex
abbrev pub lines_after : ComplexView → List Item → Reading Trace
lines_after k is =
    after (stated (codes "workers") 16 (line_start is)) (λ workers.
    after (stated (codes "room") 1024 (line_start workers.1)) (λ room.
    after (events_from (places_in k room.0) [] room.1) (λ events.
    Ok (record { start = k; workers = workers.0; room = room.0; events = events }))))

-- The trace that bytes tell, or their first fault.
abbrev pub trace_of : List ℕ → Reading Trace
trace_of bytes = after (in_complex (complex_at bytes 0)) (λ k. lines_after k.0 (items bytes k.1))
