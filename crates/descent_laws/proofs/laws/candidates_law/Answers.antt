use Rattle.descent_laws.proofs.Candidates.{candidates_are_one, first_is_best, none_is_minimal}
use Rattle.descent_laws.proofs.laws.candidates_law.Goals as goal

pub returns-clause-one : goal.returns-clause-one
returns-clause-one c = candidates_are_one

pub returns-clause-best : goal.returns-clause-best
returns-clause-best c = first_is_best

pub returns-clause-none : goal.returns-clause-none
returns-clause-none c = none_is_minimal
