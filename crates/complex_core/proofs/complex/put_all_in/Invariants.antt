use Rattle.std.proofs.Common.{◌≡◌, ◌++◌, take, vec_capacity}
use Rattle.std.specs.List.Sorted.{IsStrictlySortedBy}
use Rattle.complex_core.specs.Labels.{face_cmp}
use Rattle.complex_core.specs.Rising.{rising}
use Rattle.complex_core.proofs.complex.put_all_in.Given as goal

abbrev pub invariant-loop-set : goal.invariant-loop-set
invariant-loop-set l = record {
  items : l.sets.items ≡ rising face_cmp (l.fn.sets.items ++ take l.set-index l.more);
  rising : IsStrictlySortedBy face_cmp l.sets.items;
  capacity : vec_capacity l.sets ≡ vec_capacity l.fn.sets;
}
