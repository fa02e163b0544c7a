use Rattle.spec_worker.proofs.CountedTries.{Went}
use Rattle.search_checks.proofs.sample.commit.Given as goal

abbrev pub invariant-loop : goal.invariant-loop
invariant-loop l = Went l.fn.worker l.worker l.board l.counter
