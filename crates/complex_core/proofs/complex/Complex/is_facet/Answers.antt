use Rattle.std.proofs.Common.{◌∙◌, ap}
use Rattle.complex_core.specs.Complexes.{is_facet}
use Rattle.complex_core.proofs.Exchanges.{facet_searched}
use Rattle.complex_core.proofs.complex.Complex.is_facet.Goals as goal

pub returns : goal.returns
returns c =
    c.is_ok.ensures.value
    ∙ facet_searched c.deref.result.now c.self.inside.facets.items c.args.set.now c.binary_search.result c.deref.ensures.value c.self.invariant.rising c.binary_search.ensures.bound c.binary_search.ensures.position
    ∙ ap (λ k. is_facet k.facets c.args.set.now) c.self.view_is
