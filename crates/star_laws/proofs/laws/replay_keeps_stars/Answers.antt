use Rattle.star_laws.proofs.ReplayStars.{others_replay}
use Rattle.star_laws.proofs.laws.replay_keeps_stars.Goals as goal

pub returns : goal.returns
returns c = others_replay
