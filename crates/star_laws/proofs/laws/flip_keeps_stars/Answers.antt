use Rattle.star_laws.proofs.FlipStars.{other_star}
use Rattle.star_laws.proofs.laws.flip_keeps_stars.Goals as goal

pub returns : goal.returns
returns c = other_star
