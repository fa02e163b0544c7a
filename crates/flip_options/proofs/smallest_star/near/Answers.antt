use Rattle.std.proofs.Common.{ap, ◌∙◌}
use Rattle.flip_options.proofs.Places.{none_rises, near_first, near_other, near_kept}
use Rattle.flip_options.proofs.smallest_star.near.Goals as goal
use Rattle.flip_options.proofs.smallest_star.near.Goals.{then-rows-least, else-rows-least}

pub returns-in_default-clause-rising : goal.returns-in_default-clause-rising
returns-in_default-clause-rising c = none_rises

pub loop-label-init : goal.loop-label-init
loop-label-init c = near_first _ _ _ _ _ _ (c.deref.ensures ∙ c.labels-labels.ensures.labels) c.in-Some.ensures.cases.0 c.rows_of-least.ensures.rising c.rows_of-least.ensures.rows

pub loop-label-preserved : goal.loop-label-preserved
loop-label-preserved c = elim c.if-rows-least.branch [
  | then-rows-least w ↦ near_other _ _ _ _ _ _ _ _ (c.deref.ensures ∙ c.labels-labels.ensures.labels) c.in-Some.ensures.cases.0 c.loop-label-test.true c.rows_of-rows.ensures.rising c.rows_of-rows.ensures.rows (ap (λ r. r.now) w.least-is)
  | else-rows-least w ↦ near_kept _ _ _ _ c.loop-label.invariant (ap (λ r. r.now) w.least-is)
]
