use Rattle.flip_journal.proofs.Leading.{carried_joins, carried_leads}
use Rattle.flip_journal.proofs.Gaps.{new_name_is_least}
use Rattle.flip_journal.proofs.laws.carrying_law.Goals as goal

pub returns-clause-leads : goal.returns-clause-leads
returns-clause-leads c = carried_leads

pub returns-clause-joins : goal.returns-clause-joins
returns-clause-joins c = carried_joins

pub returns-clause-least : goal.returns-clause-least
returns-clause-least c = new_name_is_least
