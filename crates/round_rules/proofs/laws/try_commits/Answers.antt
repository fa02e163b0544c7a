use Rattle.round_rules.proofs.Committing.{commits}
use Rattle.round_rules.proofs.laws.try_commits.Goals as goal

pub returns : goal.returns
returns c = commits
