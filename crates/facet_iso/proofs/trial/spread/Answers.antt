use Rattle.std.proofs.Common.{rules}
use Rattle.std.specs.Ordering.{nat_cmp}
use Rattle.std.specs.BTreeMap.{get}
use Rattle.facet_iso.proofs.Trying.{spread_begun, next_of, images_of}
use Rattle.facet_iso.proofs.trial.spread.Goals as goal

pub loop-step-init : goal.loop-step-init
loop-step-init c = record {
  long = search rules;
  spread = λ k m h there er. spread_begun k m c.args.search.now c.args.facet.now c.args.order.now (get nat_cmp c.in_ok-images.images) c.push.new.self.items h there er c.in_ok-images.ensures.order c.in_ok-images.ensures.known (search rules);
}

pub take_step-requires-clause-from : goal.take_step-requires-clause-from
take_step-requires-clause-from c = search rules

pub returns-then-not-branch : goal.returns-then-not-branch
returns-then-not-branch c k m h there er = c.in_ok-take_step.ensures.none c.if-not-branch.true k m c.args.order.now h.walk.reached h (next_of k m c.args.search.now c.loop-step.faces.items _ c.loop-step.step-index h c.loop-step.invariant.long (search rules) (search rules)) (c.loop-step.invariant.spread k m h there er)

pub loop-step-preserved : goal.loop-step-preserved
loop-step-preserved c = record {
  long = search rules;
  spread = λ k m h there er. c.in_ok-take_step.ensures.made c.if-not-branch.false k m c.args.order.now h.walk.reached h (next_of k m c.args.search.now c.loop-step.faces.items _ c.loop-step.step-index h c.loop-step.invariant.long (search rules) (search rules)) (c.loop-step.invariant.spread k m h there er);
}

pub returns : goal.returns
returns c k m h there er = images_of k m c.args.search.now c.args.order.now (get nat_cmp c.loop-step.images) c.loop-step.faces.items c.loop-step.step-index h c.loop-step.invariant.long (search rules) (c.loop-step.invariant.spread k m h there er)
