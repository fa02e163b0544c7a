use Rattle.report_text.proofs.Searches.{end_is_minimal}
use Rattle.report_text.proofs.Shown.{report_is_shown}
use Rattle.report_text.proofs.law.report_is_shown.Goals as goal

pub returns-clause-shown : goal.returns-clause-shown
returns-clause-shown c = report_is_shown

pub returns-clause-minimal : goal.returns-clause-minimal
returns-clause-minimal c = end_is_minimal
