use Rattle.std.proofs.Common.{arith}
use Rattle.job_equiv.proofs.Searched.{can_search, quits_equal, quits_undecided}
use Rattle.job_equiv.proofs.job.search.Goals as goal

pub search_equal-requires-clause-first : goal.search_equal-requires-clause-first
search_equal-requires-clause-first g c κs within = can_search _ _ c.requires.first.0 c.requires.numbers c.requires.first.1

pub search_equal-requires-clause-second : goal.search_equal-requires-clause-second
search_equal-requires-clause-second g c κs within = can_search _ _ c.requires.second.0 c.requires.numbers c.requires.second.1

pub search_equal-requires-clause-gates : goal.search_equal-requires-clause-gates
search_equal-requires-clause-gates g c = omega (arith, c.requires.numbers.workers, c.requires.gates)

pub returns-in-Equal-clause-quits : goal.returns-in-Equal-clause-quits
returns-in-Equal-clause-quits g c = quits_equal (λ x. g.G.Gate.quits x) c.args.gates.now c.search_equal.new.gates c.in_ok-near.field-0 c.in-Equal.near c.in-Equal.far c.in-Equal.flips c.in-Equal.map c.in-Equal.is c.in_ok-near.ensures.quits

pub returns-clause-quits : goal.returns-clause-quits
returns-clause-quits g c = quits_undecided (λ x. g.G.Gate.quits x) c.args.gates.now c.search_equal.new.gates c.in_ok-near.field-0 c.in-Undecided.near c.in-Undecided.far c.in-Undecided.is c.in_ok-near.ensures.quits
