use Rattle.std.proofs.Common.{◌≡◌, take}
use Rattle.std.specs.List.{flat_map}
use Rattle.complex_core.specs.Subsets.{subsets_of}
use Rattle.face_counts.proofs.count.count_sets.Given as goal

abbrev pub invariant-loop-facet : goal.invariant-loop-facet
invariant-loop-facet l = l.sets.items ≡ flat_map (subsets_of l.size) (take l.facet-index l.facets)
