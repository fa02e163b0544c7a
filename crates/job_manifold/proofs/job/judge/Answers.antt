use Rattle.std.proofs.Common.{rules}
use Rattle.job_manifold.proofs.Searched.{bad_answer, search_answers}
use Rattle.job_manifold.proofs.job.judge.Goals as goal

pub returns-in_ok-bad_text-in-Some-2-clause-answers : goal.returns-in_ok-bad_text-in-Some-2-clause-answers
returns-in_ok-bad_text-in-Some-2-clause-answers g c = bad_answer c.args.plan.now c.args.complex.now c.in-Some-2.bad _ _ c.requires.limits (search rules) (search rules) (search rules) (search rules)

pub returns-in-None-clause-answers : goal.returns-in-None-clause-answers
returns-in-None-clause-answers g c = search_answers c.args.plan.now c.args.complex.now c.search.result c.requires.limits c.requires.numbers (search rules) c.search.ensures.searched
