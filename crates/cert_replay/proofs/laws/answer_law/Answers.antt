use Rattle.cert_replay.proofs.OneAnswer.{answer_one}
use Rattle.cert_replay.proofs.laws.answer_law.Goals as goal

pub returns : goal.returns
returns c = answer_one
