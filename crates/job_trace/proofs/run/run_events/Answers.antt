use Rattle.std.proofs.Common.{rules}
use Rattle.job_trace.proofs.RunTurns.{one_more_named, both_then, both_else}
use Rattle.job_trace.proofs.RunNames.{has_places}
use Rattle.job_trace.proofs.run.run_events.Goals as goal
use Rattle.job_trace.proofs.run.run_events.Goals.{then-accepted, else-accepted}

pub placed_event-event-requires : goal.placed_event-event-requires
placed_event-event-requires c = has_places c.args.trace.now c.args.names.now c.args.places.now c.deref-event-items.result.now c.loop-place.place c.event-item.result c.requires.names c.requires.places (search rules) c.loop-place-test.true c.event-item.is c.requires.can.events

pub loop-place-preserved : goal.loop-place-preserved
loop-place-preserved c = record {
  run = one_more_named c.args.trace.now c.args.names.now c.deref-event-items.result.now c.loop-place.place c.event-item.result c.placed_event-event.result c.loop-place.accepted c.in_ok-is_accepted.is_accepted c.if-accepted.accepted _ _ _ _ c.requires.names (search rules) c.loop-place.invariant.run c.loop-place-test.true c.event-item.is (c.placed_event-event.ensures.placed c.args.names.now c.requires.places) c.placed_event-event.ensures.event c.in_ok-is_accepted.ensures.turn (elim c.if-accepted.branch [
    | then-accepted w ↦ both_then _ _ _ w.if-accepted.true w.accepted-is
    | else-accepted w ↦ both_else _ _ _ w.if-accepted.false w.accepted-is
  ]);
  within = c.run_event.ensures.grows c.loop-place.place c.loop-place.invariant.within;
}
