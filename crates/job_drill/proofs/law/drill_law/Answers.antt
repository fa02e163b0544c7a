use Rattle.job_drill.proofs.Laws.{lawful, no_is_sound, verdict_tells_search, yes_reaches}
use Rattle.job_drill.proofs.law.drill_law.Goals as goal

pub returns : goal.returns
returns c = record { sound = no_is_sound; reaches = yes_reaches; searched = verdict_tells_search; lawful = lawful }
