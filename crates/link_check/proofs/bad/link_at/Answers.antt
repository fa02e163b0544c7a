use Rattle.link_check.proofs.Linked.{can_make_of, made_if}
use Rattle.link_check.proofs.bad.link_at.Goals as goal

pub complex_of-requires : goal.complex_of-requires
complex_of-requires c = can_make_of c.requires.0 c.args.face.now c.args.near.now c.in_ok-facets.facets.items c.deref.result.now c.requires.1 c.in_ok-facets.ensures c.deref.ensures.value

pub returns : goal.returns
returns c = made_if c.args.face.now c.args.near.now c.in_ok-facets.facets.items c.deref.result.now c.complex_of.result c.in_ok-facets.ensures c.deref.ensures.value c.complex_of.ensures.facets c.complex_of.ensures.dim
