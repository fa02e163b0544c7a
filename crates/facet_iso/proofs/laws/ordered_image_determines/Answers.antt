use Rattle.facet_iso.proofs.Determined.{ordered_image_determines}
use Rattle.facet_iso.proofs.laws.ordered_image_determines.Goals as goal

pub returns : goal.returns
returns c = ordered_image_determines
