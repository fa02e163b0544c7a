use Rattle.board_rule.proofs.Lawful.{release_law, leave_law}
use Rattle.board_rule.proofs.laws.release_is_lawful.Goals as goal

pub returns-clause-star : goal.returns-clause-star
returns-clause-star c = release_law

pub returns-clause-journal : goal.returns-clause-journal
returns-clause-journal c = leave_law
