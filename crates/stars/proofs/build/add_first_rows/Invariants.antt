use Rattle.std.proofs.Common.{◌≡◌, ◌++◌, take, filter}
use Rattle.stars.specs.Building.{begins}
use Rattle.stars.proofs.build.add_first_rows.Given as goal

abbrev pub invariant-loop-row : goal.invariant-loop-row
invariant-loop-row l = l.facets.items ≡ l.fn.facets.items ++ filter (λ f. begins f l.vertex) (take l.row-index l.row-items)
