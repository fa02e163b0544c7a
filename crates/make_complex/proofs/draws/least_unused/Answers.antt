use Rattle.std.proofs.Common.{rules}
use Rattle.make_complex.proofs.Gaps.{one_more_used, found_unused, none_unused}
use Rattle.make_complex.proofs.draws.least_unused.Goals as goal

pub returns-then-is_empty : goal.returns-then-is_empty
returns-then-is_empty c = λ k h. (found_unused k c.args.stars.now c.star.result.now.star c.loop-before.before c.is_empty.result (search rules) c.star.ensures c.is_empty.ensures c.if-is_empty.true h (c.loop-before.invariant k h), (search rules))

pub loop-before-preserved : goal.loop-before-preserved
loop-before-preserved c = λ k h. one_more_used k c.args.stars.now c.star.result.now.star c.loop-before.before c.is_empty.result (search rules) c.star.ensures c.is_empty.ensures c.if-is_empty.false h (c.loop-before.invariant k h)

pub returns : goal.returns
returns c = λ k h. none_unused k c.args.stars.now c.loop-before.before _ c.loop-before-test.false (search rules) h (c.loop-before.invariant k h)
