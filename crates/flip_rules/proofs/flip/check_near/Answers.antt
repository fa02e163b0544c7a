use Rattle.std.proofs.Common.{◌∙◌}
use Rattle.flip_rules.proofs.Legal.{can_put_near}
use Rattle.flip_rules.proofs.Near.{broken_rule_seen}
use Rattle.flip_rules.proofs.flip.check_near.Goals as goal

pub returns-clause-broken_rule : goal.returns-clause-broken_rule
returns-clause-broken_rule c = λ k h. c.first_broken.ensures.near ∙ broken_rule_seen k c.args.dim c.args.near_a.now c.args.near_b.now c.args.flip.now.a c.args.flip.now.b h

pub returns-clause-facets : goal.returns-clause-facets
returns-clause-facets c = can_put_near c.args.dim c.args.near_a.now c.args.near_b.now c.args.flip.now.a c.args.flip.now.b c.first_broken.result c.requires.low c.first_broken.ensures.first c.first_broken.ensures.second c.first_broken.ensures.near
