use Rattle.stars.proofs.Views.{empty_star}
use Rattle.stars.proofs.star.Star.empty.Goals as goal

pub invariant_of-result : goal.invariant_of-result
invariant_of-result c = empty_star c.args.vertex c.args.dim c.new.result.items c.new-2.result.items c.new.ensures.items c.new-2.ensures.items c.requires.vertex c.requires.low
