use Rattle.star_laws.proofs.FlipStars.{flip_alike}
use Rattle.star_laws.proofs.laws.flip_on_alike.Goals as goal

pub returns : goal.returns
returns c = flip_alike
