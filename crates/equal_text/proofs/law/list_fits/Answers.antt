use Rattle.equal_text.proofs.Fits.{list_fits}
use Rattle.equal_text.proofs.law.list_fits.Goals as goal

pub returns : goal.returns
returns c = list_fits
