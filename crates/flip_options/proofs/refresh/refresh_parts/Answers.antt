use Rattle.flip_options.proofs.Looking.{parts_next}
use Rattle.flip_options.proofs.refresh.refresh_parts.Goals as goal

pub loop-size-preserved : goal.loop-size-preserved
loop-size-preserved c = parts_next _ _ _ _ _ _ c.loop-size.invariant c.in_ok-refresh_sized.ensures
