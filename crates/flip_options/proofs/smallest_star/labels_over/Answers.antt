use Rattle.std.proofs.Common.{sym, ◌∙◌}
use Rattle.flip_options.proofs.Joining.{so_far_start, so_far_skip, so_far_more, so_far_end, too_many, none_joined, long_join}
use Rattle.flip_options.proofs.smallest_star.labels_over.Goals as goal
use Rattle.flip_options.proofs.smallest_star.labels_over.Goals.{then-holds+in-Some+else-len-most, else-holds}

pub loop-row-init : goal.loop-row-init
loop-row-init c = so_far_start _ _ c.len-count.ensures.face

pub returns-in-None : goal.returns-in-None
returns-in-None c = record { labels = none_joined _ _ _ _ _ _ c.loop-row.invariant c.loop-row-test.true c.row-item.is (sym c.holds.ensures ∙ c.if-holds.true) c.requires c.in-None.ensures }

pub returns-then-len-most : goal.returns-then-len-most
returns-then-len-most c = record { labels = too_many _ _ _ _ _ _ c.loop-row.invariant c.loop-row-test.true c.row-item.is (sym c.holds.ensures ∙ c.if-holds.true) (long_join c.loop-row.all c.row-item.result c.in-Some.more _ _ c.if-len-most.true c.len.ensures.len c.in-Some.ensures.1) }

pub loop-row-preserved : goal.loop-row-preserved
loop-row-preserved c = elim c.if-holds.branch [
  | then-holds+in-Some+else-len-most w ↦ so_far_more _ _ _ _ _ _ _ c.loop-row.invariant c.loop-row-test.true c.row-item.is (sym c.holds.ensures ∙ w.if-holds.true) w.in-Some.ensures.1 w.len.ensures.face w.all-is
  | else-holds w ↦ so_far_skip _ _ _ _ _ _ c.loop-row.invariant c.loop-row-test.true c.row-item.is (sym c.holds.ensures ∙ w.if-holds.false) w.all-is
]

pub returns : goal.returns
returns c = record { labels = so_far_end _ _ _ _ c.loop-row.invariant c.loop-row-test.false }
