use Rattle.std.proofs.Common.{◌≡◌, ◌-◌}
use Rattle.anneal_plan.specs.Proposals.{candidates, first_chosen, falling}
use Rattle.anneal_plan.proofs.propose.first_flip.Given as goal

-- the choice at the first of all indices is that at the first of the rest
abbrev pub invariant-loop-tried : goal.invariant-loop-tried
invariant-loop-tried l =
    first_chosen (candidates l.star.star l.fresh) l.word (falling l.indices.first l.indices.count)
    ≡ first_chosen (candidates l.star.star l.fresh) l.word (falling (l.indices.first - l.tried) (l.indices.count - l.tried))
