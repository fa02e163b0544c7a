use Rattle.flip_options.proofs.Flipping.{flips_stay}
use Rattle.flip_options.proofs.laws.change_law.Goals as goal

pub returns : goal.returns
returns c = flips_stay
