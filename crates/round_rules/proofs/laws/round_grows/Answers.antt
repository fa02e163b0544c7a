use Rattle.round_rules.proofs.Counting.{round_grows}
use Rattle.round_rules.proofs.laws.round_grows.Goals as goal

pub returns : goal.returns
returns c = round_grows
