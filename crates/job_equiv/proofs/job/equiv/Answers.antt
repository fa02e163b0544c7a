use Rattle.std.proofs.Common.{rules}
use Rattle.job_equiv.proofs.Searched.{difference_judged, first_unfit, search_judged, second_unfit}
use Rattle.job_equiv.proofs.job.equiv.Goals as goal

pub returns-then-not-branch-clause-judged : goal.returns-then-not-branch-clause-judged
returns-then-not-branch-clause-judged g c = first_unfit c.args.plan.now c.args.bytes.now c.in-Ok.complexes c.in_ok-is_pseudomanifold.field-0 _ _ c.in-Ok.ensures.read c.in_ok-is_pseudomanifold.ensures c.if-not-branch.true c.in_ok-refuse.ensures.refused

pub returns-then-not-branch-2-clause-judged : goal.returns-then-not-branch-2-clause-judged
returns-then-not-branch-2-clause-judged g c = second_unfit c.args.plan.now c.args.bytes.now c.in-Ok.complexes c.in_ok-is_pseudomanifold.field-0 c.in_ok-is_pseudomanifold-2.field-0 _ _ c.in-Ok.ensures.read c.in_ok-is_pseudomanifold.ensures c.if-not-branch.false c.in_ok-is_pseudomanifold-2.ensures c.if-not-branch-2.true c.in_ok-refuse-2.ensures.refused

pub returns-in_ok-difference_text-in-Some-clause-judged : goal.returns-in_ok-difference_text-in-Some-clause-judged
returns-in_ok-difference_text-in-Some-clause-judged g c = difference_judged c.args.plan.now c.args.bytes.now c.in-Ok.complexes c.in_ok-is_pseudomanifold.field-0 c.in_ok-is_pseudomanifold-2.field-0 c.in-Some.differ _ _ c.in-Ok.ensures.read c.in_ok-is_pseudomanifold.ensures c.if-not-branch.false c.in_ok-is_pseudomanifold-2.ensures c.if-not-branch-2.false (search rules) (search rules) (search rules) (search rules)

pub returns-in-None-clause-judged : goal.returns-in-None-clause-judged
returns-in-None-clause-judged g c = search_judged c.args.plan.now c.args.bytes.now c.in-Ok.complexes c.in_ok-is_pseudomanifold.field-0 c.in_ok-is_pseudomanifold-2.field-0 _ c.in-Ok.ensures.read c.in_ok-is_pseudomanifold.ensures c.if-not-branch.false c.in_ok-is_pseudomanifold-2.ensures c.if-not-branch-2.false (search rules) (search rules) (search rules) (search rules) c.search.ensures.searched
