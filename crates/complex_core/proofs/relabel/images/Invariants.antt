use Rattle.std.proofs.Common.{◌≡◌, take, true}
use Rattle.complex_core.specs.Maps.{takes_all, face_images}
use Rattle.complex_core.proofs.relabel.images.Given as goal

abbrev pub invariant-loop-facet : goal.invariant-loop-facet
invariant-loop-facet l = record {
  made : l.all.items ≡ face_images l.map (take l.facet-index l.facets);
  taken : takes_all l.map (take l.facet-index l.facets) ≡ true;
}
