use Rattle.star_laws.proofs.FlipStars.{broken_rule_seen}
use Rattle.star_laws.proofs.laws.broken_rule_seen_on_stars.Goals as goal

pub returns : goal.returns
returns c = broken_rule_seen
