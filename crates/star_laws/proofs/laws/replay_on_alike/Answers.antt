use Rattle.star_laws.proofs.ReplayStars.{replay_alike}
use Rattle.star_laws.proofs.laws.replay_on_alike.Goals as goal

pub returns : goal.returns
returns c = replay_alike
