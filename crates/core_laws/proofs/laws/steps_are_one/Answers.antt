use Rattle.core_laws.proofs.OneStep.{step_is_one}
use Rattle.core_laws.proofs.laws.steps_are_one.Goals as goal

pub returns : goal.returns
returns c = step_is_one
