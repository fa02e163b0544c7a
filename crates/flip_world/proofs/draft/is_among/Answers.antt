use Rattle.std.proofs.Common.{◌∙◌, refl}
use Rattle.complex_core.proofs.Exchanges.{facet_searched}
use Rattle.flip_world.proofs.draft.is_among.Goals as goal

pub returns : goal.returns
returns c = c.is_ok.ensures.value ∙ facet_searched c.args.sets.now c.args.sets.now c.args.set.now c.binary_search.result refl c.requires c.binary_search.ensures.bound c.binary_search.ensures.position
