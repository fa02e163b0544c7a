use Rattle.std.proofs.Common.{◌-◌, ◌^◌}
use Rattle.anneal_plan.specs.Faces.{flips_at}
use Rattle.anneal_plan.specs.Growth.{grown}
use Rattle.anneal_plan.proofs.Stepping.{Left}
use Rattle.anneal_plan.proofs.grow.+grow.Given as goal

abbrev pub decreases-grow : goal.decreases-grow
decreases-grow l = l.others

-- what the page becomes by all flips, it becomes by those of the labels from here on
abbrev pub invariant-loop-label : goal.invariant-loop-label
invariant-loop-label l =
    Left l.page l.fn.page (flips_at l.centre.dim l.rows (grown l.rows l.centre.vertex l.others l.last l.face))
    (flips_at l.centre.dim l.rows (grown l.rows l.centre.vertex l.others l.before l.face))

abbrev pub decreases-loop-label : goal.decreases-loop-label
decreases-loop-label l = 2 ^ 16 - l.before
