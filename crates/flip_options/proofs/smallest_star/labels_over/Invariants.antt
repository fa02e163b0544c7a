use Rattle.flip_options.proofs.Joining.{JoinSoFar}
use Rattle.flip_options.proofs.smallest_star.labels_over.Given as goal

abbrev pub invariant-loop-row : goal.invariant-loop-row
invariant-loop-row l = JoinSoFar l.rows l.set l.row-index l.all
