use Rattle.board_rule.proofs.Lawful.{closed_law}
use Rattle.board_rule.proofs.laws.closed_board_is_lawful.Goals as goal

pub returns : goal.returns
returns c = closed_law
