use Rattle.job_words.proofs.Asked.{asked_exactly}
use Rattle.job_words.proofs.laws.asked_exactly.Goals as goal

pub returns : goal.returns
returns c = asked_exactly
