use Rattle.std.proofs.Common.{◌≡◌, take}
use Rattle.make_complex.proofs.named.triangles.Given as goal

abbrev pub invariant-loop-row : goal.invariant-loop-row
invariant-loop-row l = l.all.items ≡ take l.row-index l.rows
