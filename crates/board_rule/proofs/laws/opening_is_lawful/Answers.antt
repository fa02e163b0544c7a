use Rattle.board_rule.proofs.Lawful.{opening_law}
use Rattle.board_rule.proofs.laws.opening_is_lawful.Goals as goal

pub returns : goal.returns
returns c = opening_law
