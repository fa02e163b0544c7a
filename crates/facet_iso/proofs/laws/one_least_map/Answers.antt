use Rattle.facet_iso.proofs.Determined.{one_least_map}
use Rattle.facet_iso.proofs.laws.one_least_map.Goals as goal

pub returns : goal.returns
returns c = one_least_map
