use Rattle.std.proofs.Common.{rules}
use Rattle.job_drill.specs.Answers as drill
use Rattle.job_run.proofs.Judged.{quits_some, search_reported}
use Rattle.job_run.proofs.run.judge_drill.Goals as goal

pub returns-in-Some-clause-judged : goal.returns-in-Some-clause-judged
returns-in-Some-clause-judged g c = search_reported (drill.meaning c.args.recipe.now c.args.plan.now) _ _ _ c.in_ok-said.found c.in-Some.report c.in-Some.is c.in_ok-said.ensures.judged

pub returns-in-Some-clause-quits : goal.returns-in-Some-clause-quits
returns-in-Some-clause-quits g c = quits_some (λ x. g.G.Gate.quits x) c.args.gates.now c.drill.new.gates c.in_ok-said.found c.in-Some.report (search rules) c.in_ok-said.ensures.quits
