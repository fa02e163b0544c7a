use Rattle.flip_options.specs.Candidates.{FirstLook}
use Rattle.flip_options.proofs.FirstLooking.{GrownSoFar}
use Rattle.flip_options.proofs.first_look.+look_from.Given as goal

abbrev pub decreases-look_from : goal.decreases-look_from
decreases-look_from l = l.others

-- the face itself, and what it becomes by the labels so far
abbrev pub invariant-loop-label : goal.invariant-loop-label
invariant-loop-label l = FirstLook l.stars l.fn.candidates l.candidates (GrownSoFar l.face l.others l.label-items l.label-index)
