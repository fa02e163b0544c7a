use Rattle.std.proofs.Common.{◌≡◌, filter, take}
use Rattle.complex_core.specs.Labels.{has}
use Rattle.flip_options.proofs.first_look.rows_with.Given as goal

abbrev pub invariant-loop-row : goal.invariant-loop-row
invariant-loop-row l = l.all.items ≡ filter (λ r. has r l.label) (take l.row-index l.rows)
