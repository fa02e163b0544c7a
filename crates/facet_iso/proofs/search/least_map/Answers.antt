use Rattle.std.proofs.Common.{◌∙◌, ap, sym, []}
use Rattle.std.proofs.lemmas.List.{get_or_default}
use Rattle.complex_core.specs.Complexes.{is_facet}
use Rattle.pseudo_test.proofs.Spreading.{listed_at}
use Rattle.facet_iso.proofs.Least.{least_at_all, none_at_all, none_more, still_none, when_least, when_none}
use Rattle.facet_iso.proofs.search.least_map.Goals as goal

pub least_from-requires-clause-facet : goal.least_from-requires-clause-facet
least_from-requires-clause-facet c = ap (λ fs. is_facet fs c.facet-item.result) (sym c.facets-facet-items.ensures.facets) ∙ ap (is_facet c.facets-facet-items.result.now) (c.facet-item.is ∙ get_or_default c.facets-facet-items.result.now c.loop-facet.facet-index c.facet-item.result [] c.loop-facet-test.true) ∙ listed_at c.facets-facet-items.result.now c.loop-facet.facet-index [] c.loop-facet-test.true

pub returns-in-Some-clause-least : goal.returns-in-Some-clause-least
returns-in-Some-clause-least c = least_at_all c.args.first.now c.args.second.now c.in_ok-search.ensures.first c.in_ok-search.ensures.second c.facets-facet-items.result.now c.loop-facet.facet-index c.facet-item.result c.in-Some.map c.facets-facet-items.ensures.facets c.loop-facet-test.true c.facet-item.is c.loop-facet.invariant.none (when_least c.args.first.now c.args.second.now c.in_ok-search.ensures.first c.in_ok-search.ensures.second c.facet-item.result c.loop-facet.order.items c.in_ok-map.field-0 c.loop-facet.invariant.empty c.in-Some.map c.in_ok-map.ensures.least c.in-Some.is)

pub loop-facet-preserved : goal.loop-facet-preserved
loop-facet-preserved c = record {
  none = none_more c.args.first.now c.args.second.now c.in_ok-search.ensures.first c.in_ok-search.ensures.second c.facets-facet-items.result.now c.loop-facet.facet-index c.facet-item.result c.loop-facet-test.true c.facet-item.is c.loop-facet.invariant.none (when_none c.args.first.now c.args.second.now c.in_ok-search.ensures.first c.in_ok-search.ensures.second c.facet-item.result c.loop-facet.order.items c.in_ok-map.field-0 c.loop-facet.invariant.empty c.in_ok-map.ensures.none c.in_default.is);
  empty = still_none c.args.first.now c.args.second.now c.in_ok-search.ensures.first c.in_ok-search.ensures.second c.facet-item.result c.loop-facet.order.items c.in_ok-map.field-0 c.loop-facet.invariant.empty c.least_from.new.order.items c.in_ok-map.ensures.back c.in_default.is;
}

pub returns-clause-none : goal.returns-clause-none
returns-clause-none c = none_at_all c.args.first.now c.args.second.now c.in_ok-search.ensures.first c.in_ok-search.ensures.second c.facets-facet-items.result.now c.loop-facet.facet-index c.facets-facet-items.ensures.facets c.loop-facet-test.false c.loop-facet.invariant.none
