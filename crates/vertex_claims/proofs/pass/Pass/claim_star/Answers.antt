use Rattle.std.proofs.Common.{◌≡◌, ℕ, sym, ap, ◌∙◌, arith, length}
use Rattle.board_rule.specs.Views.{keeps}
use Rattle.vertex_claims.specs.Passes.{know}
use Rattle.board_rule.proofs.Keeps.{claims}
use Rattle.vertex_claims.proofs.Seats.{is_a_pass, room_left}
use Rattle.vertex_claims.proofs.pass.Pass.claim_star.Goals as goal

pub compare_exchange-found-requires : goal.compare_exchange-found-requires
compare_exchange-found-requires c =
    let self = c.args.self.now in
    let board = c.args.board.now in
    let place : c.from.result ≡ c.args.place = c.from.ensures in
    let req = c.requires.place in
    let sized = board.sized in
    let told = board.told in
    let few = board.few in (
      c.requires.board.table,
      omega arith,
      claims board.table.shared.key _ self.seat.id self.seat.me (know self) c.from.result c.from-2.result (is_a_pass self.seat.me.0 self.ready.passes) (omega arith) (omega arith)
          (self.ready.number ∙ sym c.from-2.ensures) (ap (λ (p : ℕ). keeps (know self) p) place ∙ c.requires.free) (omega arith) c.requires.claiming,
    )

pub push_front_reserved-requires : goal.push_front_reserved-requires
push_front_reserved-requires c =
    let self = c.args.self.now in
    let r = self.ready in
    let req = c.requires.place in
    let near = self.roomy in
    let places = c.requires.board.places in
    let left = room_left self.seat.me.1 c.args.place _ r.once r.below (r.agrees c.args.place ∙ c.requires.free) (omega arith) in
    omega (arith, left, ap length r.ordered)
