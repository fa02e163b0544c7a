use Rattle.anneal_plan.proofs.Fitting.{only_b_can_break}
use Rattle.anneal_plan.proofs.propose.only_b_can_break.Goals as goal

pub returns : goal.returns
returns c = only_b_can_break
