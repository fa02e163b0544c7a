-- The faults of a trace, as those of an input.
use Rattle.std.proofs.Common.{ap}
use Rattle.facet_text.specs.declared.fault.TextFault.TheVariants as text
use Rattle.job_answer.specs.Faults.{Fails}
use Rattle.trace_text.specs.Traces.{Trace}
use Rattle.trace_text.specs.Grammar.{Reading as TraceReading}
use Rattle.trace_text.specs.Outcomes.{Fails as FailsTrace}
use Rattle.trace_text.specs.declared.fault.TraceFault.{TraceFault}
use Rattle.trace_text.specs.declared.fault.TraceFault.TheVariants as trace
use Rattle.job_trace.specs.Readings.{of_trace, seen_as}

pub fails_seen : (e : TraceFault) (r : TraceReading Trace) → FailsTrace e r → Fails (of_trace e) (seen_as r)
fails_seen (trace.Complex (text.Syntax place)) r h = ap seen_as h
fails_seen (trace.Complex (text.Label place)) r h = ap seen_as h
fails_seen (trace.Complex (text.Twice place)) r h = ap seen_as h
fails_seen (trace.Complex (text.Size place)) r h = ap seen_as h
fails_seen (trace.Complex (text.NotPure place)) r h = ap seen_as h
fails_seen (trace.Complex text.TooManyFacets) r h = ap seen_as h
fails_seen (trace.Complex text.TooManyLabels) r h = ap seen_as h
fails_seen (trace.Complex text.Memory) r h = tt
fails_seen (trace.Syntax place) r h = ap seen_as h
fails_seen (trace.Label place) r h = ap seen_as h
fails_seen (trace.Number place) r h = ap seen_as h
fails_seen trace.Memory r h = tt
