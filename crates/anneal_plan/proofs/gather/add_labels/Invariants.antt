use Rattle.std.proofs.Common.{◌≡◌, ◌++◌, filter, take}
use Rattle.anneal_plan.specs.Growth.{comes_next}
use Rattle.anneal_plan.proofs.gather.add_labels.Given as goal

abbrev pub invariant-loop-label : goal.invariant-loop-label
invariant-loop-label l = l.all.items ≡ l.fn.all.items ++ filter (comes_next l.vertex l.last) (take l.label-index l.label-items)
