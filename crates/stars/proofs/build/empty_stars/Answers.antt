use Rattle.stars.specs.StarViews.{shown}
use Rattle.stars.proofs.Placing.{empty_next}
use Rattle.stars.proofs.Shown.{shown_more}
use Rattle.stars.proofs.build.empty_stars.Goals as goal

pub loop-place-preserved : goal.loop-place-preserved
loop-place-preserved c = empty_next c.args.dim c.loop-place.place (shown c.loop-place.stars.items) (shown c.push.new.self.items) c.empty-star.result.star c.loop-place.invariant c.empty-star.ensures (shown_more c.loop-place.stars.items c.push.new.self.items c.empty-star.result c.in_ok-push.ensures.items)
