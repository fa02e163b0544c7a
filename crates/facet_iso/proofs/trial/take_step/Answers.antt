use Rattle.std.proofs.Common.{rules}
use Rattle.facet_iso.proofs.Stepping.{none_across, none_with, none_agrees, spread_on}
use Rattle.facet_iso.proofs.trial.take_step.Goals as goal

pub returns-in_default-across-clause-none : goal.returns-in_default-across-clause-none
returns-in_default-across-clause-none c _ k l order reached h n g = none_across k l c.args.search.now order reached c.args.faces.now.items _ c.args.step.now h n g c.in-Some.left c.index.result.now c.without-ridge.result c.deref.result.now c.across.result (search rules) c.index.ensures c.without-ridge.ensures c.deref.ensures.value c.across.ensures c.in_default-across.is

pub returns-in_default-with-clause-none : goal.returns-in_default-with-clause-none
returns-in_default-with-clause-none c _ k l order reached h n g = none_with k l c.args.search.now order reached c.args.faces.now.items _ c.args.step.now h n g c.in-Some.left c.index.result.now c.without-ridge.result c.deref.result.now c.across.result (search rules) c.index.ensures c.without-ridge.ensures c.deref.ensures.value c.across.ensures c.in-Some-across.taken c.in-Some-across.is c.in_default-with.ensures

pub returns-then-not-branch-clause-none : goal.returns-then-not-branch-clause-none
returns-then-not-branch-clause-none c _ k l order reached h n g = none_agrees k l c.args.search.now order reached c.args.faces.now.items _ c.args.step.now h n g c.in-Some.left c.index.result.now c.without-ridge.result c.deref.result.now c.across.result (search rules) c.index.ensures c.without-ridge.ensures c.deref.ensures.value c.across.ensures c.in-Some-across.taken c.in-Some-across.is (c.in_ok-agree.ensures.refused c.if-not-branch.true)

pub returns-clause-made : goal.returns-clause-made
returns-clause-made c _ k l order reached h n g = spread_on k l c.args.search.now order reached c.args.faces.now.items _ c.args.step.now h n g c.in-Some.left c.index.result.now c.without-ridge.result c.deref.result.now c.across.result (search rules) c.index.ensures c.without-ridge.ensures c.deref.ensures.value c.across.ensures c.in-Some-across.taken c.in-Some-across.is c.in-Some-with.face (search rules) (search rules) _ (c.in_ok-agree.ensures.given c.if-not-branch.false) (c.in_ok-agree.ensures.again c.if-not-branch.false) _ c.in_ok-push.ensures.items
