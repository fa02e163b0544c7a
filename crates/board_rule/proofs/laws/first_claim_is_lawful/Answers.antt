use Rattle.board_rule.proofs.Lawful.{first_won, first_refused}
use Rattle.board_rule.proofs.laws.first_claim_is_lawful.Goals as goal

pub returns-clause-won : goal.returns-clause-won
returns-clause-won c = first_won

pub returns-clause-refused : goal.returns-clause-refused
returns-clause-refused c = first_refused
