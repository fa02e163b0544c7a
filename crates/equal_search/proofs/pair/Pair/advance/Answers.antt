use Rattle.equal_search.proofs.Counts.{are_next, later}
use Rattle.equal_search.proofs.pair.Pair.advance.Goals as goal

pub returns-in_err-second-clause-later : goal.returns-in_err-second-clause-later
returns-in_err-second-clause-later g c = later _ _ _ _ _ c.in_ok-first.ensures.round.rise c.in_err-second.ensures.later

pub returns-clause-rounds : goal.returns-clause-rounds
returns-clause-rounds g c = are_next _ _ _ _ _ _ _ _ c.in_ok-first.ensures.round c.in_ok-second.ensures.round

pub returns-clause-later : goal.returns-clause-later
returns-clause-later g c = later _ _ _ _ _ c.in_ok-first.ensures.round.rise c.in_ok-second.ensures.later
