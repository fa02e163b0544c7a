use Rattle.board_rule.proofs.Lawful.{hand_out_law, take_back_law}
use Rattle.board_rule.proofs.laws.passes_are_lawful.Goals as goal

pub returns-clause-out : goal.returns-clause-out
returns-clause-out c = hand_out_law

pub returns-clause-back : goal.returns-clause-back
returns-clause-back c = take_back_law
