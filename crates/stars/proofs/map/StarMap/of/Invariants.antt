use Rattle.std.proofs.Common.{◌≡◌, take}
use Rattle.stars.specs.StarViews.{shown}
use Rattle.stars.specs.Building.{stars_of}
use Rattle.stars.proofs.map.StarMap.of.Given as goal

abbrev pub invariant-loop-facet : goal.invariant-loop-facet
invariant-loop-facet l = shown l.stars.items ≡ stars_of l.dim (take l.facet-index l.facet-items) 0 l.places
