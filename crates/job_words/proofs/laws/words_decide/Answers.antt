use Rattle.job_words.specs.Jobs.{job_at}
use Rattle.job_words.proofs.Asked.{decided}
use Rattle.job_words.proofs.laws.words_decide.Goals as goal

pub returns : goal.returns
returns c words = decided (job_at words)
