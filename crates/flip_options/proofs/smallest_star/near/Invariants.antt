use Rattle.std.proofs.Common.{◌≡◌}
use Rattle.std.specs.List.Sorted.{IsStrictlySortedBy}
use Rattle.complex_core.specs.Labels.{face_cmp}
use Rattle.complex_core.specs.Complexes.{ComplexView, over}
use Rattle.stars.specs.StarViews.{IsStarListOf}
use Rattle.flip_options.proofs.smallest_star.near.Given as goal

abbrev pub invariant-loop-label : goal.invariant-loop-label
invariant-loop-label l = IsStrictlySortedBy face_cmp l.least × ((k : ComplexView) → IsStarListOf k l.stars → over l.least l.set ≡ over k.facets l.set)
