use Rattle.std.proofs.Common.{◌≡◌, ◌≤◌, ◌-◌, [], length}
use Rattle.facet_text.specs.Lines.{items}
use Rattle.trace_text.specs.Grammar.{events_from}
use Rattle.trace_text.proofs.event.read_events.Given as goal

abbrev pub invariant-events : goal.invariant-events
invariant-events l = record {
  within : l.offset ≤ length l.bytes;
  few : length l.events.items ≤ l.offset;
  same : events_from l.places [] (items l.bytes l.from) ≡ events_from l.places l.events.items (items l.bytes l.offset);
}

abbrev pub decreases-events : goal.decreases-events
decreases-events l = length l.bytes - l.offset
