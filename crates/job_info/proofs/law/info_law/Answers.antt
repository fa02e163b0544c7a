use Rattle.job_info.proofs.Laws.{lawful, yes_tells_facts, never_says_no}
use Rattle.job_info.proofs.law.info_law.Goals as goal

pub returns : goal.returns
returns c = record { facts = yes_tells_facts; info = never_says_no; lawful = lawful }
