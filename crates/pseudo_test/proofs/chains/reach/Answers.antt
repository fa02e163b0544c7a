use Rattle.complex_core.specs.Labels.{IsFace}
use Rattle.pseudo_test.proofs.Spreading.{each_at, moved_next}
use Rattle.pseudo_test.proofs.chains.reach.Goals as goal

pub reach_one-requires : goal.reach_one-requires
reach_one-requires c = each_at IsFace c.args.run.now c.loop-incidence.incidence-index c.incidence-item.result c.requires c.loop-incidence-test.true c.incidence-item.is

pub loop-incidence-preserved : goal.loop-incidence-preserved
loop-incidence-preserved c = moved_next c.args.run.now c.loop-incidence.incidence-index c.incidence-item.result c.args.reached.now.items c.args.rest.now.keys c.loop-incidence.reached.items c.loop-incidence.rest.keys c.reach_one.new.reached.items c.reach_one.new.rest.keys c.loop-incidence-test.true c.incidence-item.is c.loop-incidence.invariant c.in_ok-reach_one.ensures
