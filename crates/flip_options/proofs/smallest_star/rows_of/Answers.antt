use Rattle.flip_options.proofs.Places.{star_zero, star_past, none_rises}
use Rattle.flip_options.proofs.smallest_star.rows_of.Goals as goal
use Rattle.flip_options.proofs.smallest_star.rows_of.Goals.{then-label-eq0-via-then-label-eq0, then-label-eq0-via-else-label-eq0+then-label-places}

pub returns-then-label-eq0-clause-rows : goal.returns-then-label-eq0-clause-rows
returns-then-label-eq0-clause-rows c = λ k h. elim c.then-label-eq0.branch [
  | then-label-eq0-via-then-label-eq0 w ↦ star_zero k _ _ w.if-label-eq0.true h
  | then-label-eq0-via-else-label-eq0+then-label-places w ↦ star_past k _ _ _ w.places.ensures w.if-label-places.true h
]

pub returns-then-label-eq0-clause-rising : goal.returns-then-label-eq0-clause-rising
returns-then-label-eq0-clause-rising c = none_rises
