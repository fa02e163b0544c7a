use Rattle.job_words.proofs.Defaults.{alone}
use Rattle.job_words.proofs.laws.name_alone.Goals as goal

pub returns : goal.returns
returns c = alone
