use Rattle.std.proofs.Common.{◌≡◌}
use Rattle.std.specs.VecDeque.{deque_capacity}
use Rattle.board_rule.specs.Items.{places_of}
use Rattle.vertex_claims.specs.Held.{Shuffled, index_of}
use Rattle.vertex_claims.proofs.reordering.bring.Given as goal

abbrev pub invariant-loop-seat : goal.invariant-loop-seat
invariant-loop-seat l = record {
  table : l.seat.table_id ≡ l.initial.seat.table_id;
  number : l.seat.id ≡ l.initial.seat.id;
  slots : Shuffled l.initial.seat.me l.seat.me;
  ordered : l.order.items ≡ places_of l.seat.me.1;
  room : deque_capacity l.order ≡ deque_capacity l.initial.order;
}

abbrev pub decreases-loop-seat : goal.decreases-loop-seat
decreases-loop-seat l = index_of l.place (places_of l.seat.me.1)
