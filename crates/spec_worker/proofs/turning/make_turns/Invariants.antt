use Rattle.std.proofs.Common.{◌≤◌, false, length}
use Rattle.vertex_claims.specs.Passes.{know, places_on}
use Rattle.held_stars.specs.Gates.{Follows, Keeps, noted_in}
use Rattle.spec_worker.proofs.Series.{Between}
use Rattle.spec_worker.proofs.turning.make_turns.Given as goal

abbrev pub invariant-loop-turn : goal.invariant-loop-turn
invariant-loop-turn g l =
    Between l.try_plan l.dim (places_on l.board) l.turn l.fn.pass l.fn.hold l.pass l.hold
    × (g.G.Gate.quits l.fn.gate ≤ g.G.Gate.quits l.gate)
    × Follows (g.G.Gate.heard l.fn.gate) (g.G.Gate.heard l.gate) (Keeps false (noted_in (know l.fn.pass).tries) (noted_in (know l.pass).tries) (length l.fn.hold.flips.items) (length l.hold.flips.items))
