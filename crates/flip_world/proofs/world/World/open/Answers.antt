use Rattle.std.proofs.Common.{rules}
use Rattle.core_laws.proofs.Growth.{opened_within}
use Rattle.flip_world.proofs.world.World.open.Goals as goal

pub returns-clause-within : goal.returns-clause-within
returns-clause-within c = opened_within _ c.args.start.now c.args.places c.args.workers (search rules)
