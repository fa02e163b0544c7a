use Rattle.flip_laws.proofs.Reaching.{boundary_looks, reaching_looks}
use Rattle.flip_laws.proofs.obstacle.obstacle_law.Goals as goal

pub returns-clause-boundary : goal.returns-clause-boundary
returns-clause-boundary c = boundary_looks

pub returns-clause-reaching : goal.returns-clause-reaching
returns-clause-reaching c = reaching_looks
