use Rattle.sphere_text.proofs.Cycles.{cycle_is_decided}
use Rattle.sphere_text.proofs.law.cycle_is_decided.Goals as goal

pub returns : goal.returns
returns c = cycle_is_decided
