use Rattle.cert_replay.proofs.RowSets.{rows_built, seen_is, seen_keeps}
use Rattle.cert_replay.proofs.facet_set.FacetSet.of.Goals as goal

pub invariant_of-result : goal.invariant_of-result
invariant_of-result c = seen_keeps c.args.complex.now c.dim.result c.put_facets.new.rows c.dim.ensures.dim c.dim.ensures.complex (rows_built c.args.complex.now.facets c.facets.result.now c.new-rows.result c.put_facets.new.rows c.facets.ensures.facets c.new-rows.ensures.empty c.in_ok-put_facets.ensures)

pub returns : goal.returns
returns c = seen_is c.args.complex.now c.dim.result c.put_facets.new.rows c.dim.ensures.dim c.dim.ensures.complex (rows_built c.args.complex.now.facets c.facets.result.now c.new-rows.result c.put_facets.new.rows c.facets.ensures.facets c.new-rows.ensures.empty c.in_ok-put_facets.ensures)
