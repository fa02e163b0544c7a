use Rattle.std.proofs.Common.{◌≡◌, take, flat_map}
use Rattle.stars.specs.Building.{first_rows}
use Rattle.stars.proofs.map.StarMap.complex.Given as goal

abbrev pub invariant-loop-star : goal.invariant-loop-star
invariant-loop-star l = l.facets.items ≡ flat_map (λ s. first_rows s.star) (take l.star-index l.star-items)
