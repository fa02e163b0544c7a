use Rattle.std.proofs.Common.{◌≡◌, ◌-◌, ◌++◌, drop}
use Rattle.anneal_plan.proofs.Gaps.{gaps}
use Rattle.anneal_plan.proofs.places.free.Given as goal

-- the places so far, and those that the rest of the walk leaves out, are all of them
abbrev pub invariant-loop-before : goal.invariant-loop-before
invariant-loop-before l = gaps 0 l.places l.used.items ≡ l.free.items ++ gaps l.before (l.places - l.before) (drop l.below l.used.items)
