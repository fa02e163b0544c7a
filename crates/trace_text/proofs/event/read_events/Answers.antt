use Rattle.std.proofs.Common.{arith, ◌∙◌, sym, ap, List}
use Rattle.std.specs.Prelude.{length}
use Rattle.std.proofs.lemmas.Result.{err_from_is_err_and}
use Rattle.core_laws.specs.declared.event.Event.{Event}
use Rattle.facet_text.specs.Lines.{items}
use Rattle.trace_text.specs.Grammar.{events_from}
use Rattle.trace_text.proofs.Events.{bad_line, fails, no_line, one_line}
use Rattle.trace_text.proofs.event.read_events.Goals as goal

pub returns-in_err-event-clause-read : goal.returns-in_err-event-clause-read
returns-in_err-event-clause-read c =
    let p = err_from_is_err_and c.from_residual.result c.from_residual.ensures.1 in
    rw (p.1, p.2) (fails c.in_err-event.field-0.0 _ (c.events.invariant.same ∙ bad_line c.args.places.now c.events.events.items _ _ _ _ c.in_err-event.field-0.0 c.in-Some.ensures.first c.in_err-event.ensures.read))

pub events-preserved : goal.events-preserved
events-preserved c =
    let e = c.in_ok-push.ensures.items in
    let n = ap length e in
    record {
      within = omega (arith, c.in_ok-event.ensures.offset);
      few = omega (arith, n, c.in-Some.ensures.offset, c.in_ok-event.ensures.offset, c.events.invariant.few);
      same = c.events.invariant.same ∙ one_line c.args.places.now c.events.events.items _ _ _ _ _ c.in_ok-event.event c.in-Some.ensures.first c.in_ok-event.ensures.read ∙ ap (λ (es : List Event). events_from c.args.places.now es (items c.args.bytes.now c.in_ok-event.end)) (sym e);
    }

pub returns-clause-read : goal.returns-clause-read
returns-clause-read c = c.events.invariant.same ∙ no_line c.args.places.now c.events.events.items _ _ c.in_default.ensures.first
