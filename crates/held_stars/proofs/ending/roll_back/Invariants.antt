use Rattle.std.proofs.Common.{◌≡◌, vec_capacity}
use Rattle.vertex_claims.specs.declared.pass.Pass.{Pass}
use Rattle.held_stars.specs.Holding.{Restorable}
use Rattle.held_stars.proofs.ending.roll_back.Given as goal

abbrev pub invariant-loop-flip : goal.invariant-loop-flip
invariant-loop-flip l = ((pass : Pass) → Restorable pass l.fn.hold → Restorable pass l.hold) × (vec_capacity l.hold.flips ≡ vec_capacity l.fn.hold.flips) × (vec_capacity l.hold.lent ≡ vec_capacity l.fn.hold.lent)

abbrev pub decreases-loop-flip : goal.decreases-loop-flip
decreases-loop-flip l = goal.left-loop-flip l
