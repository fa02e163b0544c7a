use Rattle.std.proofs.Common.{◌≡◌, filter, take}
use Rattle.std.specs.List.{flat_map}
use Rattle.anneal_plan.specs.Growth.{comes_next}
use Rattle.anneal_plan.proofs.gather.labels_next.Given as goal

abbrev pub invariant-loop-row : goal.invariant-loop-row
invariant-loop-row l = l.all.items ≡ flat_map (filter (comes_next l.vertex l.last)) (take l.row-index l.rows)
