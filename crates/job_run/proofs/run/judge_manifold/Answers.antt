use Rattle.std.proofs.Common.{rules}
use Rattle.job_run.proofs.Judged.{quits_links}
use Rattle.job_run.proofs.run.judge_manifold.Goals as goal

pub returns-in-Some-clause-quits : goal.returns-in-Some-clause-quits
returns-in-Some-clause-quits g c = quits_links (λ x. g.G.Gate.quits x) c.args.gates.now c.manifold.new.gates c.in_ok-said.found c.in-Some.left (search rules) c.in_ok-said.ensures.quits
