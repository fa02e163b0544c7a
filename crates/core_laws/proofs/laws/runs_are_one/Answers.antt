use Rattle.core_laws.proofs.OneStep.{runs_one}
use Rattle.core_laws.proofs.laws.runs_are_one.Goals as goal

pub returns : goal.returns
returns c = runs_one
