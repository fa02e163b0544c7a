use Rattle.job_replay.proofs.Laws.{lawful, yes_is_certified}
use Rattle.job_replay.proofs.law.replay_law.Goals as goal

pub returns : goal.returns
returns c = record { yes = yes_is_certified; lawful = lawful }
