use Rattle.job_trace.proofs.RunTurns.{turn_told, turn_refused}
use Rattle.job_trace.proofs.run.run_event.Goals as goal

pub returns-in-Ok-clause-turn : goal.returns-in-Ok-clause-turn
returns-in-Ok-clause-turn c = turn_told c.args.names.now c.args.number c.args.world.now c.step.new.self c.args.event.now c.in-Ok.field-0 _ c.in-Ok.ensures.told

pub returns-in_ok-write_refusal-in-Err-Refused-clause-turn : goal.returns-in_ok-write_refusal-in-Err-Refused-clause-turn
returns-in_ok-write_refusal-in-Err-Refused-clause-turn c = turn_refused c.args.names.now c.args.number c.args.world.now c.step.new.self c.args.event.now c.in-Err-Refused.field-0 c.in-Err-Refused.reason _ _ c.in-Err-Refused.field-0-is c.in-Err-Refused.ensures.refused c.in-Err-Refused.ensures.unchanged c.in_ok-write_refusal-in-Err-Refused.ensures
