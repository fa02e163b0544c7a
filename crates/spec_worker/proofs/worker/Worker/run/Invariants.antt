use Rattle.std.proofs.Common.{◌≤◌}
use Rattle.held_stars.specs.Gates.{Follows}
use Rattle.spec_worker.specs.Hearing.{RunHeard}
use Rattle.spec_worker.specs.Workers.{answers_of, tries_of}
use Rattle.spec_worker.proofs.WholeRuns.{Running, Drawn, stream_in}
use Rattle.spec_worker.proofs.worker.Worker.run.Given as goal

abbrev pub invariant-loop-t : goal.invariant-loop-t
invariant-loop-t g l = Running l.fn.self l.self l.board l.t × Drawn (stream_in l.fn.self) l.stream l.t × (g.G.Gate.quits l.fn.gate ≤ g.G.Gate.quits l.gate)
    × Follows (g.G.Gate.heard l.fn.gate) (g.G.Gate.heard l.gate) (RunHeard (tries_of l.self) (answers_of l.self))
