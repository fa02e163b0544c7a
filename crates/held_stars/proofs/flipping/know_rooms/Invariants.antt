use Rattle.std.proofs.Common.{take}
use Rattle.std.specs.List.{AllByRecursion}
use Rattle.held_stars.specs.Holding.{FitsRoom}
use Rattle.held_stars.proofs.flipping.know_rooms.Given as goal

abbrev pub invariant-loop-star : goal.invariant-loop-star
invariant-loop-star l = AllByRecursion FitsRoom (take l.star-index l.near)
