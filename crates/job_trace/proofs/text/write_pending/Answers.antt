use Rattle.std.proofs.Common.{◌∙◌}
use Rattle.job_trace.proofs.RunTurns.{pending_next, nothing_next, both_then, both_else}
use Rattle.job_trace.proofs.text.write_pending.Goals as goal
use Rattle.job_trace.proofs.text.write_pending.Goals.{then-nothing, else-nothing}

pub loop-seat-preserved : goal.loop-seat-preserved
loop-seat-preserved c = record {
  text = pending_next c.args.world.now c.loop-seat.seat c.args.workers c.pending-flips.result.now _ _ _ c.requires c.loop-seat-test.true c.pending-flips.ensures c.loop-seat.invariant.text c.in_ok-write_pending_of.ensures;
  nothing = nothing_next c.args.world.now c.loop-seat.seat c.args.workers c.pending-flips.result.now c.loop-seat.nothing c.if-nothing.nothing c.requires c.loop-seat-test.true c.pending-flips.ensures c.loop-seat.invariant.nothing (elim c.if-nothing.branch [
    | then-nothing w ↦ both_then _ _ _ w.if-nothing.true (w.nothing-is ∙ w.is_empty-nothing.ensures)
    | else-nothing w ↦ both_else _ _ _ w.if-nothing.false w.nothing-is
  ]);
}
