use Rattle.descent_laws.proofs.Reducing.{first_determines, best_is_one}
use Rattle.descent_laws.proofs.Falling.{flip_falls}
use Rattle.descent_laws.proofs.laws.reducing_law.Goals as goal

pub returns-clause-determines : goal.returns-clause-determines
returns-clause-determines c = first_determines

pub returns-clause-best : goal.returns-clause-best
returns-clause-best c = best_is_one

pub returns-clause-falls : goal.returns-clause-falls
returns-clause-falls c = flip_falls
