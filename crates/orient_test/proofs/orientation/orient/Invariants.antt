use Rattle.std.specs.BTreeMap.{get}
use Rattle.complex_core.specs.Labels.{face_cmp}
use Rattle.orient_test.specs.Spreads.{IsForced}
use Rattle.orient_test.proofs.Orienting.{Covers}
use Rattle.orient_test.proofs.orientation.orient.Given as goal

abbrev pub invariant-loop-facet : goal.invariant-loop-facet
invariant-loop-facet l = record {
  forced : IsForced l.complex.facets (get face_cmp l.signs);
  covers : Covers l.complex.facets (get face_cmp l.signs) l.facet-index;
}
