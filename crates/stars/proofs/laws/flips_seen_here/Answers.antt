use Rattle.stars.proofs.Replaying.{seen_here}
use Rattle.stars.proofs.laws.flips_seen_here.Goals as goal

pub returns : goal.returns
returns c = seen_here
