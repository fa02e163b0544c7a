use Rattle.std.proofs.Common.{◌-◌, length}
use Rattle.std.specs.BTreeSet.{contains}
use Rattle.complex_core.specs.Labels.{face_cmp}
use Rattle.pseudo_test.proofs.Spreading.{Spread, Done, Within}
use Rattle.pseudo_test.proofs.chains.strong.Given as goal

abbrev pub invariant-loop-next : goal.invariant-loop-next
invariant-loop-next l = record {
  spread : Spread l.complex.facets l.first l.reached.items l.rest.keys (contains face_cmp l.seen);
  done : Done l.reached.items (contains face_cmp l.seen) l.next;
}

abbrev pub invariant-loop-label : goal.invariant-loop-label
invariant-loop-label l = Within l.complex l.first l.reached.items l.rest.keys (contains face_cmp l.seen) l.next l.label-items l.label-index

abbrev pub decreases-loop-next : goal.decreases-loop-next
decreases-loop-next l = length l.complex.facets - l.next
