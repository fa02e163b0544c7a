use Rattle.std.proofs.Common.{◌≡◌, ◌-◌, [], length, get_or}
use Rattle.std.specs.BTreeSet.{contains}
use Rattle.complex_core.specs.Labels.{face_cmp}
use Rattle.pseudo_test.proofs.Spreading.{Spread, Done, Within}
use Rattle.facet_iso.specs.Isomorphisms.{least_facet}
use Rattle.facet_iso.specs.Walks.{Leads}
use Rattle.facet_iso.proofs.walk.walk_over.Given as goal

abbrev pub invariant-loop-next : goal.invariant-loop-next
invariant-loop-next l = record {
  spread : Spread l.complex.facets (least_facet l.complex) l.walk.reached.items l.walk.rest.keys (contains face_cmp l.walk.seen);
  done : Done l.walk.reached.items (contains face_cmp l.walk.seen) l.next;
  begins : get_or l.walk.reached.items 0 [] ≡ least_facet l.complex;
  leads : Leads l.walk.reached.items l.walk.steps.items;
}

abbrev pub invariant-loop-label : goal.invariant-loop-label
invariant-loop-label l = record {
  within : Within l.complex (least_facet l.complex) l.walk.reached.items l.walk.rest.keys (contains face_cmp l.walk.seen) l.next l.label-items l.label-index;
  begins : get_or l.walk.reached.items 0 [] ≡ least_facet l.complex;
  leads : Leads l.walk.reached.items l.walk.steps.items;
}

abbrev pub decreases-loop-next : goal.decreases-loop-next
decreases-loop-next l = length l.complex.facets - l.next
