use Rattle.round_rules.proofs.Gathering.{round_ok}
use Rattle.round_rules.proofs.laws.round_law.Goals as goal

pub returns : goal.returns
returns c = λ s setup main_view r stars end g e. round_ok s setup main_view r stars g end e
