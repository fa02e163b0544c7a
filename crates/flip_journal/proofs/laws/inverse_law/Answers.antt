use Rattle.flip_rules.proofs.Replays.{replays_back}
use Rattle.flip_journal.proofs.Leading.{inverse_is_as_long}
use Rattle.flip_journal.proofs.laws.inverse_law.Goals as goal

pub returns-clause-back : goal.returns-clause-back
returns-clause-back c = replays_back

pub returns-clause-length : goal.returns-clause-length
returns-clause-length c = inverse_is_as_long
