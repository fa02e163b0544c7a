use Rattle.flip_rules.proofs.Exchanges.{replay_is_exchange, put_in_pure}
use Rattle.flip_rules.proofs.laws.exchange_law.Goals as goal

pub returns-clause-exchange : goal.returns-clause-exchange
returns-clause-exchange c = replay_is_exchange

pub returns-clause-pure : goal.returns-clause-pure
returns-clause-pure c = put_in_pure
