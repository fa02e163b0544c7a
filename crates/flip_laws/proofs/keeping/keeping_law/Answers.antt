use Rattle.flip_laws.proofs.Replays.{replay_keeps}
use Rattle.flip_laws.proofs.keeping.keeping_law.Goals as goal

pub returns : goal.returns
returns c = record { replay = replay_keeps }
