use Rattle.job_make.proofs.Laws.{lawful, yes_tells_made, never_says_no}
use Rattle.job_make.proofs.law.make_law.Goals as goal

pub returns : goal.returns
returns c = record { tells = yes_tells_made; make = never_says_no; lawful = lawful }
