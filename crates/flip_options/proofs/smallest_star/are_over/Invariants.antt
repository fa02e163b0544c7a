use Rattle.std.proofs.Common.{◌≡◌, ◌≤◌, length, take}
use Rattle.complex_core.specs.Complexes.{over}
use Rattle.flip_options.proofs.smallest_star.are_over.Given as goal

abbrev pub invariant-loop-row : goal.invariant-loop-row
invariant-loop-row l = (l.found ≡ length (over (take l.row-index l.rows) l.set)) × (l.found ≤ l.count)
