use Rattle.job_run.proofs.Answering.{answer_is_one, answer_is_of_job}
use Rattle.job_run.proofs.law.answer_law.Goals as goal

pub returns : goal.returns
returns c = record { one = answer_is_one; of_job = answer_is_of_job }
