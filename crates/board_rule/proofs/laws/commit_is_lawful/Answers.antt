use Rattle.board_rule.proofs.Lawful.{commit_law}
use Rattle.board_rule.proofs.laws.commit_is_lawful.Goals as goal

pub returns : goal.returns
returns c = commit_law
