use Rattle.std.proofs.Common.{◌≡◌, ◌*◌, ◌^◌, pos, ◌+ℤ◌, ◌≤ℤ◌}
use Rattle.face_counts.specs.Faces.{faces}
use Rattle.face_counts.specs.Eulers.{alternating}
use Rattle.face_counts.proofs.count.euler_from.Given as goal

abbrev pub invariant-loop-j : goal.invariant-loop-j
invariant-loop-j l = record {
  sums : l.sum ≡ alternating (faces l.complex.facets) l.j;
  low : pos 0 ≤ℤ (l.sum +ℤ pos (l.j * 2 ^ 59));
  high : l.sum ≤ℤ pos (l.j * 2 ^ 59);
}
