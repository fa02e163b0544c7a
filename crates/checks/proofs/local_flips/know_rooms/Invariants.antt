use Rattle.std.proofs.Common.{◌≤◌, length, take}
use Rattle.std.specs.List.{AllByRecursion}
use Rattle.checks.proofs.local_flips.know_rooms.Given as goal

abbrev pub invariant-loop-star : goal.invariant-loop-star
invariant-loop-star l = AllByRecursion (λ s. length s.star.rows ≤ s.room) (take l.star-index l.near)
