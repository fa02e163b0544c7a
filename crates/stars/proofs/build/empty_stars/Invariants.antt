use Rattle.std.proofs.Common.{◌≡◌, []}
use Rattle.stars.specs.StarViews.{shown}
use Rattle.stars.specs.Building.{stars_of}
use Rattle.stars.proofs.build.empty_stars.Given as goal

abbrev pub invariant-loop-place : goal.invariant-loop-place
invariant-loop-place l = shown l.stars.items ≡ stars_of l.dim [] 0 l.place
