use Rattle.spec_worker.proofs.CountedTries.{Went}
use Rattle.search_checks.proofs.sample.make.Given as goal

abbrev pub invariant-loop-told : goal.invariant-loop-told
invariant-loop-told g l = Went l.fn.worker l.worker l.board l.told-index
