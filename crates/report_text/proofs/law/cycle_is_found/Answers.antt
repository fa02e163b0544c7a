use Rattle.report_text.proofs.Searches.{cycle_is_found}
use Rattle.report_text.proofs.law.cycle_is_found.Goals as goal

pub returns : goal.returns
returns c = cycle_is_found
