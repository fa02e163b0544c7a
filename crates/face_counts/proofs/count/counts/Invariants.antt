use Rattle.std.proofs.Common.{◌≡◌, ◌<◌, ◌^◌}
use Rattle.std.specs.Prelude.{EachIndex, slice_index}
use Rattle.face_counts.specs.Faces.{faces, numbers}
use Rattle.face_counts.proofs.count.counts.Given as goal

abbrev pub invariant-loop-j : goal.invariant-loop-j
invariant-loop-j l = record {
  counted : l.all.items ≡ numbers (faces l.complex.facets) l.j;
  small : EachIndex l.all.items (λ j. slice_index l.all.items j < 2 ^ 59);
}
