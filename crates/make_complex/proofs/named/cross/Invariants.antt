use Rattle.std.proofs.Common.{◌≡◌, ◌+◌, ◌*◌}
use Rattle.make_complex.specs.Named.{one_of_each}
use Rattle.make_complex.proofs.named.cross.Given as goal

abbrev pub invariant-loop-pair : goal.invariant-loop-pair
invariant-loop-pair l = l.sets.items ≡ one_of_each (2 * l.fn.dim + 3) l.pair
