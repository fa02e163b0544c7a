use Rattle.std.proofs.Common.{take, string_bytes}
use Rattle.core_laws.specs.Cores.{IsWithin}
use Rattle.job_trace.specs.TraceRuns.{HasRun}
use Rattle.job_trace.proofs.run.run_events.Given as goal

abbrev pub invariant-loop-place : goal.invariant-loop-place
invariant-loop-place l = record {
  run : HasRun l.trace (take l.place l.trace.events) l.accepted (string_bytes l.text) l.world;
  within : IsWithin l.place l.world;
}
