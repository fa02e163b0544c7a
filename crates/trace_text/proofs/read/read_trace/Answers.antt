use Rattle.trace_text.proofs.Whole.{keeps, room_fits}
use Rattle.trace_text.proofs.read.read_trace.Goals as goal

pub places_in-requires : goal.places_in-requires
places_in-requires c = room_fits c.in_ok-complex.complex _ c.in_ok-room.room _ _ c.in_ok-complex.ensures.limits c.in_ok-room.ensures.read

pub returns-clause-limits : goal.returns-clause-limits
returns-clause-limits c =
    keeps (record { start = c.in_ok-complex.complex; workers = c.in_ok-workers.workers; room = c.in_ok-room.room; events = c.in_ok-events.events.items }) _ _ c.in_ok-places.places _ _ _ _ _ c.in_ok-complex.ensures.limits c.in_ok-workers.ensures.read c.in_ok-room.ensures.read c.in_ok-places.ensures c.in_ok-events.ensures.read
