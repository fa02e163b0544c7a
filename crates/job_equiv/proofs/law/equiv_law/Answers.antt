use Rattle.job_equiv.proofs.Laws.{lawful, no_is_sound, verdict_tells_searches, yes_is_one_list}
use Rattle.job_equiv.proofs.law.equiv_law.Goals as goal

pub returns : goal.returns
returns c = record { sound = no_is_sound; one_list = yes_is_one_list; searched = verdict_tells_searches; lawful = lawful }
