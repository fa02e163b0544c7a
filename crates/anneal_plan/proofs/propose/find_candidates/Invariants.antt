use Rattle.std.proofs.Common.{◌≡◌}
use Rattle.anneal_plan.proofs.propose.find_candidates.Given as goal

abbrev pub invariant-loop-tried : goal.invariant-loop-tried
invariant-loop-tried l = l.star ≡ l.fn.star
