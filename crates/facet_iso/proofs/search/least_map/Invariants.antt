use Rattle.std.proofs.Common.{◌≡◌, [], take}
use Rattle.facet_iso.proofs.Least.{NoneTo}
use Rattle.facet_iso.proofs.search.least_map.Given as goal

abbrev pub invariant-loop-facet : goal.invariant-loop-facet
invariant-loop-facet l = record {
  none : NoneTo l.first l.second (take l.facet-index l.facet-items);
  empty : l.order.items ≡ [];
}
