use Rattle.std.proofs.Common.{rules}
use Rattle.job_run.proofs.Judged.{quits_both}
use Rattle.job_run.proofs.run.judge_equiv.Goals as goal

pub returns-in-Some-clause-quits : goal.returns-in-Some-clause-quits
returns-in-Some-clause-quits g c = quits_both (λ x. g.G.Gate.quits x) c.args.gates.now c.equiv.new.gates c.in_ok-said.found c.in-Some.first c.in-Some.second (search rules) c.in_ok-said.ensures.quits
