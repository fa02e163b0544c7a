use Rattle.std.proofs.Common.{◌++◌, string_bytes, refl, ap, sym, ◌∙◌, arith}
use Rattle.trace_text.specs.Traces.{names}
use Rattle.job_trace.proofs.RunTurns.{both_then, both_else}
use Rattle.job_trace.proofs.RunEnd.{few_places_of, places_turned, is_opened_as, ended_as, workers_as, is_traced, tells_history, yes_then, no_else}
use Rattle.job_trace.proofs.run.run_trace.Goals as goal
use Rattle.job_trace.proofs.run.run_trace.Goals.{then-accepted, else-accepted, then-clean, else-clean}

pub overflow_cast-count : goal.overflow_cast-count
overflow_cast-count c = omega (arith, few_places_of c.args.trace.now _ c.in_ok-ground.names c.pairs.result.now (sym c.trace.view_is) c.facets-facets.ensures.complex c.requires.spares c.in_ok-ground.ensures.names c.pairs.ensures.pairs)

pub run_events-requires-clause-places : goal.run_events-requires-clause-places
run_events-requires-clause-places c = places_turned c.trace.inside.complex c.trace.inside.room c.in_ok-ground.names c.in_ok-places.places c.facets-facets.ensures.complex c.in_ok-ground.ensures.names c.in_ok-places.ensures

pub run_events-requires-clause-opened : goal.run_events-requires-clause-opened
run_events-requires-clause-opened c = is_opened_as c.args.trace.now _ c.in_ok-ground.names c.pairs.result.now c.in_ok-ground.ground _ c.in_ok-world.world (sym c.trace.view_is) c.in_ok-ground.ensures.names c.in_ok-ground.ensures.dense c.pairs.ensures.pairs refl c.in_ok-world.ensures.opened

pub write_pending-requires : goal.write_pending-requires
write_pending-requires c = workers_as c.args.trace.now _ c.in_ok-ground.names c.run_events.new.world (sym c.trace.view_is) (ended_as c.args.trace.now _ c.in_ok-ground.names c.in_ok-ground.ground c.in_ok-accepted.accepted _ c.run_events.new.world (sym c.trace.view_is) c.in_ok-accepted.ensures c.facets-ground.ensures.complex c.in_ok-ground.ensures.names c.in_ok-ground.ensures.dense c.in_ok-ground.ensures.taken c.in_ok-ground.ensures.back)

pub with_history-requires : goal.with_history-requires
with_history-requires c = (ended_as c.args.trace.now _ c.in_ok-ground.names c.in_ok-ground.ground c.in_ok-accepted.accepted _ c.run_events.new.world (sym c.trace.view_is) c.in_ok-accepted.ensures c.facets-ground.ensures.complex c.in_ok-ground.ensures.names c.in_ok-ground.ensures.dense c.in_ok-ground.ensures.taken c.in_ok-ground.ensures.back).taken

pub returns-clause-traced : goal.returns-clause-traced
returns-clause-traced c = is_traced c.args.trace.now c.in_ok-ground.names c.in_ok-accepted.accepted c.in_ok-nothing.nothing c.if-accepted.clean _ _ _ _ _ c.if-clean.status c.run_events.new.world c.in_ok-accepted.ensures (c.in_ok-ground.ensures.names ∙ ap names c.trace.view_is) c.in_ok-nothing.ensures.text c.in_ok-nothing.ensures.nothing (elim c.if-accepted.branch [
  | then-accepted w ↦ both_then _ _ _ w.if-accepted.true w.clean-is
  | else-accepted w ↦ both_else _ _ _ w.if-accepted.false w.clean-is
]) c.in_ok-text.ensures (c.in_ok-push_str.ensures.bytes ∙ ap (λ bs. string_bytes c.in_ok-text.text ++ bs) c.as_str.ensures.value) c.in_ok-text-2.ensures (elim c.if-clean.branch [
  | then-clean w ↦ yes_then _ _ w.if-clean.true w.status-is
  | else-clean w ↦ no_else _ _ w.if-clean.false w.status-is
])

pub returns-clause-history : goal.returns-clause-history
returns-clause-history c = tells_history c.args.trace.now c.in_ok-ground.names _ _ c.run_events.new.world (ended_as c.args.trace.now _ c.in_ok-ground.names c.in_ok-ground.ground c.in_ok-accepted.accepted _ c.run_events.new.world (sym c.trace.view_is) c.in_ok-accepted.ensures c.facets-ground.ensures.complex c.in_ok-ground.ensures.names c.in_ok-ground.ensures.dense c.in_ok-ground.ensures.taken c.in_ok-ground.ensures.back) (c.in_ok-ground.ensures.names ∙ ap names c.trace.view_is) c.in_ok-text-2.ensures
