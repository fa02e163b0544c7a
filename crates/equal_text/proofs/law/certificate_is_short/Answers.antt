use Rattle.equal_text.proofs.Lengths.{certified_is_short}
use Rattle.equal_text.proofs.law.certificate_is_short.Goals as goal

pub returns : goal.returns
returns c = certified_is_short
