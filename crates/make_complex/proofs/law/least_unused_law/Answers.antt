use Rattle.make_complex.proofs.Gaps.{least_unused_is}
use Rattle.make_complex.proofs.law.least_unused_law.Goals as goal

pub returns : goal.returns
returns c = least_unused_is
