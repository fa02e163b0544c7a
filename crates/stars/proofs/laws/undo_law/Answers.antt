use Rattle.stars.proofs.Flipping.{undo_law}
use Rattle.stars.proofs.laws.undo_law.Goals as goal

pub returns : goal.returns
returns c = undo_law
