use Rattle.equal_text.proofs.ReadAgain.{certified_is_read}
use Rattle.equal_text.proofs.law.certificate_is_read.Goals as goal

pub returns : goal.returns
returns c = certified_is_read
