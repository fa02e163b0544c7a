use Rattle.star_laws.proofs.ReplayStars.{star_replayed}
use Rattle.star_laws.proofs.laws.star_after_replay.Goals as goal

pub returns : goal.returns
returns c = star_replayed
