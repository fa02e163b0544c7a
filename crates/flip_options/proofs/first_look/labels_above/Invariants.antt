use Rattle.std.proofs.Common.{◌≡◌, nat_lt, filter, take}
use Rattle.std.specs.List.{flat_map}
use Rattle.flip_options.proofs.first_look.labels_above.Given as goal

abbrev pub invariant-loop-row : goal.invariant-loop-row
invariant-loop-row l = l.all.items ≡ flat_map (filter (nat_lt l.last)) (take l.row-index l.rows)
