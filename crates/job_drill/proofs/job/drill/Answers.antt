use Rattle.std.proofs.Common.{rules}
use Rattle.job_drill.proofs.Drilled.{drilled_by}
use Rattle.job_drill.proofs.job.drill.Goals as goal

pub returns-clause-judged : goal.returns-clause-judged
returns-clause-judged g c = drilled_by c.args.recipe.now c.args.plan.now c.alone-plan.result c.in_ok-complex.complex c.in_ok-decision.decision _ _ _ c.alone-plan.ensures c.in_ok-complex.ensures.made c.in_ok-complex.ensures.limits c.in_ok-complex.ensures.looks c.keeps_limits.ensures (search rules) (search rules) (search rules) (search rules)
