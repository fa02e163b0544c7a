-- What the bytes of an input of `trace` tell, or their first fault.
use Rattle.std.specs.Prelude.{◌≡◌, ℕ, List, Result, Ok, Err}
use Rattle.job_answer.specs.Faults.{of_text, Fails}
use Rattle.job_answer.specs.declared.fault.Fault.{Fault}
use Rattle.job_answer.specs.declared.fault.Fault.TheVariants.{Syntax, Label, Number, Memory}
use Rattle.trace_text.specs.Traces.{Trace}
use Rattle.trace_text.specs.Grammar.{trace_of, Reading as TraceReading}
use Rattle.trace_text.specs.declared.fault.TraceFault.{TraceFault}
use Rattle.trace_text.specs.declared.fault.TraceFault.TheVariants as trace

-- why a trace is refused
abbrev pub of_trace : TraceFault → Fault
of_trace (trace.Complex e) = of_text e
of_trace (trace.Syntax place) = Syntax place
of_trace (trace.Label place) = Label place
of_trace (trace.Number place) = Number place
of_trace trace.Memory = Memory

-- a trace, or the first fault
abbrev pub Reading : Type 0
Reading = Result Trace Fault

abbrev pub seen_as : TraceReading Trace → Reading
seen_as (Ok t) = Ok t
seen_as (Err e) = Err (of_trace e)

-- The trace that the bytes tell, or their first fault.
abbrev pub input_of : List ℕ → Reading
input_of bytes = seen_as (trace_of bytes)

-- what a function returned is this reading, unless memory ran out
abbrev pub Gives : Reading → Reading → Type 0
Gives (Ok t) read = read ≡ Ok t
Gives (Err e) read = Fails e read
