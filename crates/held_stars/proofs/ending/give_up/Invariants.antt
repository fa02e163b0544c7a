use Rattle.std.proofs.Common.{◌≡◌, vec_capacity}
use Rattle.stars.specs.StarViews.{shown}
use Rattle.held_stars.proofs.GivenUp.{GivingUp}
use Rattle.held_stars.proofs.ending.give_up.Given as goal

abbrev pub invariant-loop-star : goal.invariant-loop-star
invariant-loop-star l = GivingUp l.fn.pass l.pass l.fn.flips (shown l.lent.items) × (vec_capacity l.lent ≡ vec_capacity l.fn.lent)

abbrev pub decreases-loop-star : goal.decreases-loop-star
decreases-loop-star l = goal.left-loop-star l
