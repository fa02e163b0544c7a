use Rattle.stars.proofs.Asking.{uses_told}
use Rattle.stars.proofs.map.StarMap.can_hold.Goals as goal

pub returns : goal.returns
returns c = uses_told c.args.complex.now c.args.places c.facets.result.now c.are_up_to.result c.facets.ensures.facets c.are_up_to.ensures
