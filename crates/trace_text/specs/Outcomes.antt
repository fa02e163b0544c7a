-- What a reader answers.
use Rattle.std.specs.Prelude.{◌≡◌, ◌+◌, ◌≤◌, Ok, Err}
use Rattle.std.specs.List.{AllByRecursion}
use Rattle.complex_core.specs.Maps.{greatest, used}
use Rattle.facet_text.specs.declared.fault.TextFault.{TextFault}
use Rattle.facet_text.specs.declared.fault.TextFault.TheVariants as text_fault
use Rattle.facet_text.specs.Writing.{KeepsLimits}
use Rattle.trace_text.specs.declared.fault.TraceFault.{TraceFault}
use Rattle.trace_text.specs.declared.fault.TraceFault.TheVariants as fault
use Rattle.trace_text.specs.Grammar.{Reading}
use Rattle.trace_text.specs.Traces.{IsTraceEvent, Trace}

-- What a function returned is this reading, unless memory ran out.
abbrev pub Fails : {X : Type 0} → TraceFault → Reading X → Type 0
Fails fault.Memory read = Unit {0}
Fails e read = read ≡ Err e

abbrev pub Gives : {X : Type 0} → Reading X → Reading X → Type 0
Gives (Ok x) read = read ≡ Ok x
Gives (Err e) read = Fails e read

-- the fault of a trace that a fault of its complex is
abbrev pub of_text : TextFault → TraceFault
of_text text_fault.Memory = fault.Memory
of_text e = fault.Complex e

-- a complex within the limits of its text, 1 to 16 workers, 1 to 1,024 spare labels, which are numbers of 16 bits, and events
-- of workers from 1 to 16 in the labels that are used or spare
pub record KeepsTraceLimits (t : Trace) : Type 0 where
  pub start : KeepsLimits t.start
  pub spares : greatest (used t.start.facets) + t.room ≤ 65535
  pub a_worker : 1 ≤ t.workers
  pub workers : t.workers ≤ 16
  pub a_spare : 1 ≤ t.room
  pub room : t.room ≤ 1024
  pub events : AllByRecursion (IsTraceEvent t) t.events
