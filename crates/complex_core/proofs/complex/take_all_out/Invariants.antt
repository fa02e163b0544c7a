use Rattle.std.proofs.Common.{◌≡◌, ◌≤◌, take, vec_len, vec_capacity}
use Rattle.std.specs.List.Sorted.{IsStrictlySortedBy}
use Rattle.complex_core.specs.Labels.{face_cmp}
use Rattle.complex_core.specs.Complexes.{staying}
use Rattle.complex_core.proofs.complex.take_all_out.Given as goal

abbrev pub invariant-loop-set : goal.invariant-loop-set
invariant-loop-set l = record {
  items : l.sets.items ≡ staying l.fn.sets.items (take l.set-index l.out);
  rising : IsStrictlySortedBy face_cmp l.sets.items;
  len : vec_len l.sets ≤ vec_len l.fn.sets;
  capacity : vec_capacity l.sets ≡ vec_capacity l.fn.sets;
}
