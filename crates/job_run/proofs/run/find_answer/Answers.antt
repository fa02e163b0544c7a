use Rattle.std.proofs.Common.{rules}
use Rattle.job_run.proofs.Answering.{judged_ends}
use Rattle.job_run.proofs.Known.{found_in_all, found_too_long}
use Rattle.job_run.proofs.run.find_answer.Goals as goal

pub returns-in_ok-judge-in-Ok-clause-told : goal.returns-in_ok-judge-in-Ok-clause-told
returns-in_ok-judge-in-Ok-clause-told g c = found_in_all (g.S.Source.left c.args.source.now) (g.S.Source.left c.take_input.new.source) c.args.job c.in-Ok.bytes.items c.deref.result.now c.in_ok-judge-in-Ok.field-0.status c.in_ok-judge-in-Ok.field-0.text.items c.in_ok-judge-in-Ok.field-0.report (search rules) (search rules) (search rules)

pub returns-in_ok-judge-in-Ok-clause-ends : goal.returns-in_ok-judge-in-Ok-clause-ends
returns-in_ok-judge-in-Ok-clause-ends g c = judged_ends c.args.job c.deref.result.now c.in_ok-judge-in-Ok.field-0.status c.in_ok-judge-in-Ok.field-0.text.items c.in_ok-judge-in-Ok.field-0.report (search rules)

pub returns-in_ok-refuse-in-Err-TooLong-clause-told : goal.returns-in_ok-refuse-in-Err-TooLong-clause-told
returns-in_ok-refuse-in-Err-TooLong-clause-told g c = found_too_long (g.S.Source.left c.args.source.now) (g.S.Source.left c.take_input.new.source) c.args.job c.limit.result c.in-Err-TooLong.field-0 _ _ _ _ _ _ _ c.in-Err-TooLong.field-0-0 c.limit.ensures c.in-Err-TooLong.field-0-is c.in-Err-TooLong.ensures.cause c.silent.ensures.status c.silent.ensures.text c.in_ok-refuse-in-Err-TooLong.ensures.refused c.silent.ensures.report
