use Rattle.flip_options.proofs.Looking.{sized_next}
use Rattle.flip_options.proofs.refresh.refresh_sized.Goals as goal

pub loop-part-preserved : goal.loop-part-preserved
loop-part-preserved c = sized_next _ _ _ _ _ _ _ c.loop-part.invariant c.in_ok-refresh.ensures c.loop-part-test.true c.part-item.is
