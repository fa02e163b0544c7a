use Rattle.std.proofs.Common.{rules}
use Rattle.job_sphere.proofs.Searched.{told_judged}
use Rattle.job_sphere.proofs.job.sphere.Goals as goal

pub returns-in_ok-decide-in-Ok-clause-judged : goal.returns-in_ok-decide-in-Ok-clause-judged
returns-in_ok-decide-in-Ok-clause-judged g c = told_judged c.args.plan.now c.args.bytes.now c.in-Ok.complex c.in_ok-decide-in-Ok.field-0 c.tell.result c.in-Ok.ensures.read c.in-Ok.ensures.limits c.keeps_limits.ensures (search rules) (search rules)
