use Rattle.std.proofs.Common.{sym, ap, ◌∙◌, arith, length}
use Rattle.vertex_claims.specs.Passes.{know}
use Rattle.board_rule.proofs.Keeps.{fetches}
use Rattle.vertex_claims.proofs.Seats.{is_a_pass, room_left}
use Rattle.vertex_claims.proofs.pass.Pass.claim_journal.Goals as goal

pub compare_exchange-found-requires : goal.compare_exchange-found-requires
compare_exchange-found-requires c =
    let self = c.args.self.now in
    let board = c.args.board.now in
    let sized = board.sized in
    let told = board.told in
    let few = board.few in (
      c.requires.board.table,
      omega arith,
      fetches board.table.shared.key _ self.seat.id self.seat.me (know self) c.from.result (is_a_pass self.seat.me.0 self.ready.passes) (self.ready.number ∙ sym c.from.ensures) c.requires.free (omega arith),
    )

pub push_front_reserved-requires : goal.push_front_reserved-requires
push_front_reserved-requires c =
    let self = c.args.self.now in
    let r = self.ready in
    let near = self.roomy in
    let left = room_left self.seat.me.1 0 _ r.once r.below (r.agrees 0 ∙ c.requires.free) (omega arith) in
    omega (arith, left, ap length r.ordered)
