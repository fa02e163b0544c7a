use Rattle.std.proofs.Common.{◌≡◌, ◌++◌, take, string_bytes}
use Rattle.std.specs.List.{list_all}
use Rattle.job_trace.specs.TraceTexts.{pending_lines}
use Rattle.job_trace.specs.Traced.{is_nothing}
use Rattle.job_trace.proofs.text.write_pending.Given as goal

abbrev pub invariant-loop-seat : goal.invariant-loop-seat
invariant-loop-seat l = record {
  text : string_bytes l.text ≡ string_bytes l.fn.text ++ pending_lines 1 (take l.seat l.world.pending);
  nothing : l.nothing ≡ list_all is_nothing (take l.seat l.world.pending);
}
