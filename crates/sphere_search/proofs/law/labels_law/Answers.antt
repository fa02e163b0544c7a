use Rattle.sphere_search.proofs.Labels.{labels_are_few}
use Rattle.sphere_search.proofs.law.labels_law.Goals as goal

pub returns : goal.returns
returns c = labels_are_few
