use Rattle.pseudo_test.proofs.Spreading.{insert_next}
use Rattle.facet_iso.proofs.walk.all_of.Goals as goal

pub loop-facet-preserved : goal.loop-facet-preserved
loop-facet-preserved c = insert_next c.args.facets.now c.loop-facet.all.keys c.insert.new.self.keys c.loop-facet.facet-index c.facet-item.result c.requires c.loop-facet.invariant c.loop-facet-test.true c.facet-item.is c.in_ok-insert.ensures.keys
