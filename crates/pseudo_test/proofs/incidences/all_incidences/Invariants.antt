use Rattle.std.proofs.Common.{◌≡◌, take}
use Rattle.std.specs.List.{flat_map}
use Rattle.pseudo_test.specs.Incidences.{incidences_of}
use Rattle.pseudo_test.proofs.incidences.all_incidences.Given as goal

abbrev pub invariant-loop-facet : goal.invariant-loop-facet
invariant-loop-facet l = l.all.items ≡ flat_map incidences_of (take l.facet-index l.facet-items)
