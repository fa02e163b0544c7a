use Rattle.std.proofs.Common.{◌≡◌, ◌++◌, nat_lt, filter, take}
use Rattle.flip_options.proofs.first_look.add_labels.Given as goal

abbrev pub invariant-loop-label : goal.invariant-loop-label
invariant-loop-label l = l.all.items ≡ l.fn.all.items ++ filter (nat_lt l.last) (take l.label-index l.label-items)
