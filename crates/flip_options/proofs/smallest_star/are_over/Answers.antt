use Rattle.std.proofs.Common.{sym, ◌∙◌}
use Rattle.flip_options.proofs.Joining.{too_many_rows}
use Rattle.flip_options.proofs.smallest_star.are_over.Goals as goal

pub returns-then-found-count : goal.returns-then-found-count
returns-then-found-count c = too_many_rows _ _ _ _ _ _ c.loop-row.invariant.0 c.loop-row-test.true c.row-item.is (sym c.holds.ensures ∙ c.if-holds.true) c.if-found-count.true
