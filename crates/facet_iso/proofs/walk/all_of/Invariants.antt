use Rattle.std.proofs.Common.{◌≡◌, take}
use Rattle.facet_iso.proofs.walk.all_of.Given as goal

abbrev pub invariant-loop-facet : goal.invariant-loop-facet
invariant-loop-facet l = l.all.keys ≡ take l.facet-index l.facets
