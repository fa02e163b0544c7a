use Rattle.cert_text.proofs.Again.{certificate_again}
use Rattle.cert_text.proofs.write.written_certificate_is_read.Goals as goal

pub returns : goal.returns
returns c before statement keeps = certificate_again before statement keeps
