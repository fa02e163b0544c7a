use Rattle.descent_laws.proofs.DescentRuns.{descent_is_one, descent_descends}
use Rattle.descent_laws.proofs.laws.descent_law.Goals as goal

pub returns-clause-one : goal.returns-clause-one
returns-clause-one c = descent_is_one

pub returns-clause-descends : goal.returns-clause-descends
returns-clause-descends c = descent_descends
