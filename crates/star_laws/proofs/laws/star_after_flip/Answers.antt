use Rattle.star_laws.proofs.FlipStars.{star_flipped}
use Rattle.star_laws.proofs.laws.star_after_flip.Goals as goal

pub returns : goal.returns
returns c = star_flipped
