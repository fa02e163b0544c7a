-- What the job `trace` answers.
use Rattle.std.specs.Prelude.{◌≡◌, true, false, ℕ, ◌+◌, ◌≤◌, Bool, ◌&&◌, if◌then◌else◌, List, [], ◌∷◌, ◌++◌, map, length, Result, Ok, Err}
use Rattle.std.specs.List.{list_all, AllByRecursion}
use Rattle.complex_core.specs.Maps.{at, turned, renamed, used, greatest}
use Rattle.flip_rules.specs.declared.flip.Flip.{Flip}
use Rattle.core_laws.specs.declared.event.Event.{Event}
use Rattle.core_laws.specs.declared.event.Event.TheVariants as event
use Rattle.core_laws.specs.declared.event.Told.{Told}
use Rattle.core_laws.specs.declared.event.Refused.{Refused}
use Rattle.core_laws.specs.Cores.{Core, opened}
use Rattle.core_laws.specs.Runs.{Turn, IsRun}
use Rattle.core_laws.specs.Serials.{Serial}
use Rattle.trace_text.specs.Traces.{Trace, names, IsTraceEvent}
use Rattle.flip_names.specs.Names.{named_flip}
use Rattle.job_trace.specs.TraceTexts.{trace_answer, history_lines}
use Rattle.job_answer.specs.declared.status.Status.{Status}
use Rattle.job_answer.specs.declared.status.Status.TheVariants.{Yes, No}

-- ---- the core that a trace runs on

-- an event with the place of each label in place of its name; the journal keeps 0
abbrev pub placed : List (ℕ × ℕ) → Event → Event
placed names (event.Claim worker p) = event.Claim worker (at (turned names) p)
placed names (event.Flip worker f) = event.Flip worker (named_flip (turned names) f)
placed names (event.Rollback worker) = event.Rollback worker
placed names (event.Commit worker) = event.Commit worker
placed names (event.Release worker p) = event.Release worker (at (turned names) p)

-- a place for each name, and the complex on the places
abbrev pub opened_for : Trace → Core
opened_for t = opened (renamed t.start (turned (names t))) (length (names t)) t.workers

-- where turns end that begin at a core
abbrev pub end_of : Core → List Turn → Core
end_of c [] = c
end_of c (t ∷ ts) = end_of t.next ts

-- the spare labels are numbers of 16 bits, there are 1 to 16 workers, no more events than an input has bytes, and their
-- labels are used or spare
pub record CanRun (t : Trace) : Type 0 where
  pub spares : greatest (used t.start.facets) + t.room ≤ 65535
  pub a_worker : 1 ≤ t.workers
  pub workers : t.workers ≤ 16
  pub few : length t.events ≤ 4194304
  pub events : AllByRecursion (IsTraceEvent t) t.events

-- ---- the answer

abbrev pub is_told : Result Told Refused → Bool
is_told (Ok told) = true
is_told (Err reason) = false

abbrev pub is_nothing : List Flip → Bool
is_nothing [] = true
is_nothing (f ∷ fs) = false

-- every event was accepted, and nothing is pending at the end
abbrev pub is_clean : List Turn → Core → Bool
is_clean turns last = list_all (λ (t : Turn). is_told t.answer) turns && list_all is_nothing last.pending

-- the events run, one after another, from the opened core to this last one; the answer is Yes exactly where the run is clean
pub record IsTraced (t : Trace) (status : Status) (text : List ℕ) (last : Core) : Type 0 where
  pub turns : List Turn
  pub events_are : map (λ (u : Turn). u.event) turns ≡ map (placed (names t)) t.events
  pub run : IsRun (opened_for t) turns
  pub last_is : last ≡ end_of (opened_for t) turns
  pub status_is : status ≡ (if is_clean turns last then Yes else No)
  pub says : text ≡ trace_answer (names t) (is_clean turns last) turns last

-- the headline: the start that the journal is read from is, under the names, the complex of the input; the journal is one
-- legal history from it, with each worker's entries whole, once and in order; and the text ends with this journal and the
-- complex that it leads to, in the labels of the input
pub record TellsHistory (t : Trace) (text : List ℕ) (last : Core) : Type 0 where
  pub start_is : renamed last.start (names t) ≡ t.start
  pub serial : Serial last
  pub front : List ℕ
  pub ends : text ≡ front ++ history_lines (names t) last
