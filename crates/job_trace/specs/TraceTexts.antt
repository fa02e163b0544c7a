-- The text that a trace is answered with, in the names that the places have. Each line ends with a line feed.
use Rattle.std.specs.Prelude.{ℕ, ◌+◌, Bool, if◌then◌else◌, List, [], ◌∷◌, ◌++◌, length, codes, Result, Ok, Err}
use Rattle.std.specs.List.{flat_map}
use Rattle.std.specs.Fmt.{decimal}
use Rattle.complex_core.specs.Maps.{at, image}
use Rattle.flip_names.specs.Names.{named_flip}
use Rattle.flip_rules.specs.declared.flip.Flip.{Flip}
use Rattle.flip_rules.specs.Entries.{JournalEntry}
use Rattle.core_laws.specs.declared.event.Told.{Told}
use Rattle.core_laws.specs.declared.event.Refused.{Refused}
use Rattle.core_laws.specs.declared.event.Refused.TheVariants as refused
use Rattle.core_laws.specs.Cores.{Core, complex_of}
use Rattle.core_laws.specs.Runs.{Turn}
use Rattle.job_answer.specs.Lines.{complex_line, flip_line, reason_name}

-- why an event was refused; the journal's place 0 has the name 0
abbrev pub refusal_text : List (ℕ × ℕ) → Refused → List ℕ
refusal_text names refused.NoWorker = codes "no worker"
refusal_text names (refused.NoPlace place) = codes "no place " ++ decimal (at names place)
refusal_text names (refused.Busy place owner) = codes "busy " ++ (decimal (at names place) ++ (codes " owner " ++ decimal owner))
refusal_text names (refused.NotHeld place) = codes "not held " ++ decimal (at names place)
refusal_text names (refused.Illegal reason) = codes "illegal " ++ reason_name reason
refusal_text names refused.NoFlips = codes "no flips"
refusal_text names (refused.Pending count) = codes "pending " ++ decimal count

-- a line for an event that was refused, and none for any other
abbrev pub answer_line : List (ℕ × ℕ) → ℕ → Result Told Refused → List ℕ
answer_line names number (Ok told) = []
answer_line names number (Err reason) = codes "event " ++ (decimal number ++ 32 ∷ (refusal_text names reason ++ 10 ∷ []))

-- the lines of the refused events, which are numbered on
abbrev pub answer_lines : List (ℕ × ℕ) → ℕ → List Turn → List ℕ
answer_lines names number [] = []
answer_lines names number (t ∷ ts) = answer_line names number t.answer ++ answer_lines names (number + 1) ts

-- a line for a worker with pending flips, and none for any other
abbrev pub pending_line : ℕ → List Flip → List ℕ
pending_line worker [] = []
pending_line worker (f ∷ fs) = codes "pending " ++ (decimal worker ++ 32 ∷ (decimal (length (f ∷ fs)) ++ 10 ∷ []))

-- the lines of the workers, which are numbered on
abbrev pub pending_lines : ℕ → List (List Flip) → List ℕ
pending_lines worker [] = []
pending_lines worker (flips ∷ others) = pending_line worker flips ++ pending_lines (worker + 1) others

-- who wrote the entry, and a line for each of its flips
abbrev pub entry_lines : List (ℕ × ℕ) → JournalEntry → List ℕ
entry_lines names e = codes "entry worker " ++ (decimal e.worker ++ (codes " seq " ++ (decimal e.seq ++ (codes " flips " ++ (decimal (length e.flips) ++ 10 ∷ flat_map (λ f. flip_line (named_flip names f)) e.flips)))))

abbrev pub journal_lines : List (ℕ × ℕ) → List JournalEntry → List ℕ
journal_lines names entries = codes "entries " ++ (decimal (length entries) ++ 10 ∷ flat_map (entry_lines names) entries)

-- the journal, and the complex after its flips
abbrev pub history_lines : List (ℕ × ℕ) → Core → List ℕ
history_lines names last = journal_lines names last.journal ++ complex_line (image names (complex_of last).facets)

abbrev pub verdict_line : Bool → List ℕ
verdict_line clean = (if clean then codes "yes" else codes "no") ++ 10 ∷ []

-- the verdict, the refused events, who has flips pending, the journal, and the complex after its flips
abbrev pub trace_answer : List (ℕ × ℕ) → Bool → List Turn → Core → List ℕ
trace_answer names clean turns last = verdict_line clean ++ (answer_lines names 1 turns ++ (pending_lines 1 last.pending ++ history_lines names last))
