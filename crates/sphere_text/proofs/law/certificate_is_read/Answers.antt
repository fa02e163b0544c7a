use Rattle.sphere_text.proofs.ReadAgain.{certified_is_read}
use Rattle.sphere_text.proofs.Lengths.{certified_is_short}
use Rattle.sphere_text.proofs.law.certificate_is_read.Goals as goal

pub returns-clause-read : goal.returns-clause-read
returns-clause-read c = certified_is_read

pub returns-clause-short : goal.returns-clause-short
returns-clause-short c = certified_is_short
