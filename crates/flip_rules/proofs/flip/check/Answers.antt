use Rattle.std.proofs.Common.{sym}
use Rattle.flip_rules.proofs.Legal.{decides_legal, can_put_on}
use Rattle.flip_rules.proofs.flip.check.Goals as goal

pub returns-clause-broken_rule : goal.returns-clause-broken_rule
returns-clause-broken_rule c = c.check_near.ensures.broken_rule c.args.complex.now (record { dim = sym c.dim.ensures.dim; first = c.around-near_a.ensures.over; second = c.around-near_b.ensures.over })

pub returns-clause-legal : goal.returns-clause-legal
returns-clause-legal c = decides_legal c.args.complex.now c.args.flip.now.a c.args.flip.now.b c.check_near.result (returns-clause-broken_rule c)

pub returns-clause-facets : goal.returns-clause-facets
returns-clause-facets c = can_put_on c.args.complex.now c.args.flip.now.a c.args.flip.now.b c.check_near.result c.dim.ensures.complex c.check_near.ensures.first c.check_near.ensures.second (returns-clause-broken_rule c)
