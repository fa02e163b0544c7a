use Rattle.std.proofs.Common.{◌-◌, length}
use Rattle.std.specs.BTreeMap.{get}
use Rattle.complex_core.specs.Labels.{face_cmp}
use Rattle.orient_test.proofs.Reaching.{Growing, Inner}
use Rattle.orient_test.proofs.search.signs_from.Given as goal

abbrev pub invariant-loop-next : goal.invariant-loop-next
invariant-loop-next l = Growing l.complex.facets l.fn.start l.reached.items (get face_cmp l.places) l.next

abbrev pub invariant-loop-label : goal.invariant-loop-label
invariant-loop-label l = Inner l.complex.facets l.fn.start l.reached.items (get face_cmp l.places) l.next l.label-items l.label-index

abbrev pub decreases-loop-next : goal.decreases-loop-next
decreases-loop-next l = length l.complex.facets - l.next
