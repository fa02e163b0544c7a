use Rattle.board_rule.proofs.Lawful.{later_won, journal_won, later_refused}
use Rattle.board_rule.proofs.laws.later_claim_is_lawful.Goals as goal

pub returns-clause-won : goal.returns-clause-won
returns-clause-won c = later_won

pub returns-clause-journal : goal.returns-clause-journal
returns-clause-journal c = journal_won

pub returns-clause-refused : goal.returns-clause-refused
returns-clause-refused c = later_refused
