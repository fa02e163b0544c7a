use Rattle.flip_laws.proofs.Reaching.{sound_obstacle}
use Rattle.flip_laws.proofs.obstacle.cannot_reach.Goals as goal

pub returns-clause-sound : goal.returns-clause-sound
returns-clause-sound c = sound_obstacle c.args.complex.now _ c.first_obstacle.ensures.complex c.first_obstacle.ensures.first
