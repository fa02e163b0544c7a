use Rattle.std.proofs.Common.{◌≡◌, take}
use Rattle.stars.specs.StarViews.{shown}
use Rattle.stars.specs.Building.{with_rows}
use Rattle.stars.proofs.build.add_facet.Given as goal

abbrev pub invariant-loop-label : goal.invariant-loop-label
invariant-loop-label l = shown l.stars.items ≡ with_rows (take l.label-index l.label-items) l.facet (shown l.fn.stars.items)
