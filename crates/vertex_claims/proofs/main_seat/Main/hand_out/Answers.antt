use Rattle.std.proofs.Common.{arith}
use Rattle.board_rule.specs.Views.{main_view_of}
use Rattle.board_rule.proofs.Keeps.{pass_views}
use Rattle.vertex_claims.proofs.Seats.{is_a_main}
use Rattle.vertex_claims.proofs.main_seat.Main.hand_out.Goals as goal

pub split_seat-seat-requires : goal.split_seat-seat-requires
split_seat-seat-requires c =
    let self = c.args.self.now in
    let board = c.args.board.now in
    let sized = board.sized in
    let told = board.told in
    let counted = self.counted in
    let room = c.requires.room in
    (c.requires.board.table, omega arith, pass_views board.table.shared.key self.seat.id self.seat.me.0 (main_view_of self.seat.me.0) (is_a_main self.seat.me.0 self.is_main) (omega arith))
