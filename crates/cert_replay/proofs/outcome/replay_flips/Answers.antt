use Rattle.cert_replay.proofs.Runs.{replay_step}
use Rattle.cert_replay.proofs.outcome.replay_flips.Goals as goal

pub loop-position-preserved : goal.loop-position-preserved
loop-position-preserved c = replay_step c.args.complex.now c.loop-position.set c.in-Ok.next c.args.flips.now c.loop-position.position c.index-flips-position.result c.loop-position.invariant c.loop-position-test.true c.index-flips-position.is c.in-Ok.ensures.legal c.in-Ok.ensures.ok
