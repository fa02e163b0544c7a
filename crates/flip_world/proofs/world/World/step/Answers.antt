use Rattle.core_laws.proofs.Growth.{step_grows}
use Rattle.flip_world.proofs.world.World.step.Goals as goal

pub returns-clause-grows : goal.returns-clause-grows
returns-clause-grows c = step_grows c.args.self.now _ c.args.event.now c.answer-answer.result c.answer-answer.ensures.told c.answer-answer.ensures.unchanged
