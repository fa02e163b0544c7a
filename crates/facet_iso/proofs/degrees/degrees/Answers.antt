use Rattle.std.proofs.Common.{rules}
use Rattle.facet_iso.proofs.Tables.{none_counted, counts_low, facet_counted}
use Rattle.facet_iso.proofs.degrees.degrees.Goals as goal

pub loop-facet-init : goal.loop-facet-init
loop-facet-init c = none_counted c.in_ok-degrees.degrees.items (c.in_ok-degrees.ensures.items_if_clones_equal (λ y h. h))

pub count_labels-requires-clause-low : goal.count_labels-requires-clause-low
count_labels-requires-clause-low c = counts_low _ c.loop-facet.facet-index c.loop-facet.degrees.items c.loop-facet.invariant c.loop-facet-test.true (search rules)

pub loop-facet-preserved : goal.loop-facet-preserved
loop-facet-preserved c = facet_counted _ c.loop-facet.facet-index c.facet-item.result c.loop-facet.degrees.items c.count_labels.new.degrees.items c.loop-facet-test.true c.facet-item.is c.count_labels.ensures.all c.count_labels.ensures.counted c.loop-facet.invariant
