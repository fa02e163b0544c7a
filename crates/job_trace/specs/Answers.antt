-- What the job `trace` answers.
use Rattle.std.specs.Prelude.{◌≡◌, true, ◌≤◌, ℕ, List, length, map, Ok, Some, None}
use Rattle.std.specs.declared.option.Option.{Option}
use Rattle.core_laws.specs.Cores.{Core}
use Rattle.core_laws.specs.Runs.{Turn, IsRun}
use Rattle.trace_text.specs.Traces.{Trace, names}
use Rattle.job_answer.specs.Meanings.{Meaning, by}
use Rattle.job_answer.specs.Statuses.{IsDecided}
use Rattle.job_answer.specs.declared.status.Status.{Status}
use Rattle.job_trace.specs.Readings.{input_of}
use Rattle.job_trace.specs.Traced.{placed, opened_for, end_of, is_clean, IsTraced, TellsHistory}

-- what the events of the trace come to, and the core that they end in
pub record IsTraceRun (trace : Trace) (status : Status) (text : List ℕ) (found : Option Core) : Type 0 where
  pub last : Core
  pub reports : found ≡ Some last
  pub traced : IsTraced trace status text last
  pub history : TellsHistory trace text last

-- the bytes tell a trace, each event of which is accepted, and nothing is pending at its end
pub record RunsClean (bytes : List ℕ) : Type 0 where
  pub short : length bytes ≤ 4194304
  pub trace : Trace
  pub input : input_of bytes ≡ Ok trace
  pub turns : List Turn
  pub events_are : map (λ (u : Turn). u.event) turns ≡ map (placed (names trace)) trace.events
  pub run : IsRun (opened_for trace) turns
  pub clean : is_clean turns (end_of (opened_for trace) turns) ≡ true

-- The headline of `trace`: the bytes tell a trace, and the text tells the history of the core that is reported
pub record TellsReport (bytes text : List ℕ) (found : Option Core) : Type 0 where
  pub trace : Trace
  pub input : input_of bytes ≡ Ok trace
  pub last : Core
  pub reports : found ≡ Some last
  pub history : TellsHistory trace text last

-- Of at most 4,194,304 bytes a trace is read, and its events are run. The verdicts are Yes and No, and the core at the end is
-- reported.
abbrev pub meaning : Meaning (Option Core)
meaning = record {
  limit = 4194304;
  Input = Trace;
  reads = by input_of;
  answers = IsTraceRun;
  nothing = None;
  may_end = IsDecided;
  fits = λ status found. (last : Core) × (found ≡ Some last);
  is_fixed = Unit {0};
  headline = λ bytes status text found. TellsReport bytes text found;
}
