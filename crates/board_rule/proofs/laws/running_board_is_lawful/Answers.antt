use Rattle.board_rule.proofs.Running.{running_law}
use Rattle.board_rule.proofs.laws.running_board_is_lawful.Goals as goal

pub returns : goal.returns
returns c = running_law
