use Rattle.std.proofs.Common.{arith}
use Rattle.board_rule.specs.Views.{main_view_of, pass_view_of}
use Rattle.board_rule.proofs.Keeps.{gathers}
use Rattle.vertex_claims.proofs.Seats.{is_a_main, is_a_pass, no_slots}
use Rattle.vertex_claims.proofs.main_seat.Main.take_back.Goals as goal

pub join_seat-requires : goal.join_seat-requires
join_seat-requires c =
    let self = c.args.self.now in
    let board = c.args.board.now in
    let pass = c.args.pass in
    let sized = board.sized in (
      c.requires.board.table,
      c.requires.pass.table,
      no_slots pass.seat.me _ _ _ pass.ready c.requires.empty,
      omega arith,
      gathers board.table.shared.key self.seat.id pass.seat.id self.seat.me.0 pass.seat.me.0 (main_view_of self.seat.me.0) (pass_view_of pass.seat.me.0) (is_a_main self.seat.me.0 self.is_main) (is_a_pass pass.seat.me.0 pass.ready.passes) c.requires.empty,
    )
