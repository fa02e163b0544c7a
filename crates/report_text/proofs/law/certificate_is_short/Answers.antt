use Rattle.report_text.proofs.Lengths.{certificate_is_short}
use Rattle.report_text.proofs.law.certificate_is_short.Goals as goal

pub returns : goal.returns
returns c = certificate_is_short
