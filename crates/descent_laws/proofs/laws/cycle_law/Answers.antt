use Rattle.descent_laws.proofs.Cycles.{cycle_reduces, cycle_ends}
use Rattle.descent_laws.proofs.laws.cycle_law.Goals as goal

pub returns-clause-reduces : goal.returns-clause-reduces
returns-clause-reduces c = cycle_reduces

pub returns-clause-ends : goal.returns-clause-ends
returns-clause-ends c = cycle_ends
