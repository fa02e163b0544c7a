use Rattle.std.proofs.Common.{◌≤◌, List, length, subst}
use Rattle.std.specs.List.{AllByRecursion}
use Rattle.std.proofs.lemmas.List.{take_all}
use Rattle.stars.specs.StarViews.{KeptStar}
use Rattle.stars.proofs.Undoing.{rooms_fit}
use Rattle.checks.proofs.local_flips.know_rooms.Goals as goal

pub returns : goal.returns
returns c = rooms_fit c.args.near.now (subst (λ (ss : List KeptStar). AllByRecursion (λ s. length s.star.rows ≤ s.room) ss) (take_all c.loop-star.star-index c.args.near.now c.loop-star-test.false) c.loop-star.invariant)
