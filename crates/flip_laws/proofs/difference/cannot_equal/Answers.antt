use Rattle.flip_laws.proofs.Equals.{sound_difference}
use Rattle.flip_laws.proofs.difference.cannot_equal.Goals as goal

pub returns-clause-sound : goal.returns-clause-sound
returns-clause-sound c = sound_difference c.args.first.now c.args.second.now _ c.first_difference.ensures.complex c.first_difference.ensures.other c.first_difference.ensures.first
