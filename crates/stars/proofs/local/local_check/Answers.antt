use Rattle.complex_core.proofs.Laws.{holds_has}
use Rattle.stars.specs.StarViews.{shown, vertices}
use Rattle.stars.proofs.Views.{near_shown}
use Rattle.stars.proofs.local.local_check.Goals as goal

pub star_of-near_a-requires-clause-held : goal.star_of-near_a-requires-clause-held
star_of-near_a-requires-clause-held c = holds_has (vertices (shown c.args.near.now)) c.args.flip.now.a c.in-Some.first c.requires.held.first c.in-Some.ensures.label

pub star_of-near_b-requires-clause-held : goal.star_of-near_b-requires-clause-held
star_of-near_b-requires-clause-held c = holds_has (vertices (shown c.args.near.now)) c.args.flip.now.b c.in-Some-second.second c.requires.held.second c.in-Some-second.ensures.label

pub returns-clause-broken_rule : goal.returns-clause-broken_rule
returns-clause-broken_rule c = λ k h. c.check_near.ensures.broken_rule k (near_shown k c.star_of-near_a.result.now.star c.star_of-near_b.result.now.star c.dim.result c.in-Some.first c.in-Some-second.second c.rows.result.now c.rows-2.result.now c.args.flip.now.a c.args.flip.now.b c.dim.ensures.dim c.rows.ensures.rows c.rows-2.ensures.rows c.star_of-near_a.ensures.vertex c.star_of-near_b.ensures.vertex c.in-Some.ensures.label c.in-Some-second.ensures.label (c.star_of-near_a.ensures.of k h) (c.star_of-near_b.ensures.of k h))
