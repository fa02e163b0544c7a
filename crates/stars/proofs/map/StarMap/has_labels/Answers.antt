use Rattle.stars.proofs.Asking.{places_both, places_first}
use Rattle.stars.proofs.map.StarMap.has_labels.Goals as goal

pub returns-then-is_up_to : goal.returns-then-is_up_to
returns-then-is_up_to c = places_both c.args.self.now c.args.flip.now c.places-places.result c.is_up_to.result c.is_up_to-then-is_up_to.result c.places-places.ensures c.is_up_to.ensures c.is_up_to-then-is_up_to.ensures c.if-is_up_to.true

pub returns-else-is_up_to : goal.returns-else-is_up_to
returns-else-is_up_to c = places_first c.args.self.now c.args.flip.now c.places-places.result c.is_up_to.result c.places-places.ensures c.is_up_to.ensures c.if-is_up_to.false
