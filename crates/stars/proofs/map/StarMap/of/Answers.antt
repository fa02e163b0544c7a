use Rattle.std.proofs.Common.{take}
use Rattle.stars.specs.StarViews.{shown}
use Rattle.stars.proofs.Placing.{can_add, facet_next, filled_fields, filled_map, filled_places, all_done}
use Rattle.stars.proofs.map.StarMap.of.Goals as goal

pub add_facet-requires : goal.add_facet-requires
add_facet-requires c = can_add c.args.complex.now c.dim-dim.result c.args.places c.loop-facet.facet-index c.facets-facet-items.result.now c.facet-item.result (shown c.loop-facet.stars.items) c.dim-dim.ensures.complex c.dim-dim.ensures.dim c.facets-facet-items.ensures.facets c.requires c.loop-facet-test.true c.facet-item.is c.loop-facet.invariant

pub loop-facet-preserved : goal.loop-facet-preserved
loop-facet-preserved c = facet_next c.dim-dim.result c.args.places c.loop-facet.facet-index c.facets-facet-items.result.now c.facet-item.result (shown c.loop-facet.stars.items) (shown c.add_facet.new.stars.items) c.loop-facet-test.true c.facet-item.is c.loop-facet.invariant c.in_ok-add_facet.ensures

pub invariant_of-result : goal.invariant_of-result
invariant_of-result c = filled_fields c.dim-dim.result c.args.places (take c.loop-facet.facet-index c.facets-facet-items.result.now) c.loop-facet.stars.items c.loop-facet.invariant c.ranges.places.fits

pub returns-clause-stars : goal.returns-clause-stars
returns-clause-stars c = filled_map c.args.complex.now c.dim-dim.result c.args.places (take c.loop-facet.facet-index c.facets-facet-items.result.now) (shown c.loop-facet.stars.items) c.dim-dim.ensures.complex c.dim-dim.ensures.dim c.requires c.loop-facet.invariant (all_done c.facets-facet-items.result.now c.args.complex.now.facets c.loop-facet.facet-index c.facets-facet-items.ensures.facets c.loop-facet-test.false)

pub returns-clause-places : goal.returns-clause-places
returns-clause-places c = filled_places c.dim-dim.result c.args.places (take c.loop-facet.facet-index c.facets-facet-items.result.now) (shown c.loop-facet.stars.items) c.loop-facet.invariant
