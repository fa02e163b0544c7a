use Rattle.report_text.proofs.Searches.{descent_report_is_one}
use Rattle.report_text.proofs.law.descent_report_is_one.Goals as goal

pub returns : goal.returns
returns c = descent_report_is_one
