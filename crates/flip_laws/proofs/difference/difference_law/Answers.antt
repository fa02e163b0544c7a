use Rattle.flip_laws.proofs.Equals.{image_is_alike}
use Rattle.flip_laws.proofs.difference.difference_law.Goals as goal

pub returns : goal.returns
returns c = image_is_alike
