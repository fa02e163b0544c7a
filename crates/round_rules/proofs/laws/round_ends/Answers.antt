use Rattle.round_rules.proofs.Ending.{round_replays}
use Rattle.round_rules.proofs.laws.round_ends.Goals as goal

pub returns : goal.returns
returns c = round_replays
