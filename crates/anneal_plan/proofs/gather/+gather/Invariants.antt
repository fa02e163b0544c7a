use Rattle.std.proofs.Common.{◌≡◌, ◌++◌, ◌-◌, take}
use Rattle.std.specs.List.{flat_map}
use Rattle.complex_core.specs.Labels.{with}
use Rattle.anneal_plan.specs.Faces.{faces_out}
use Rattle.anneal_plan.specs.Growth.{grown}
use Rattle.anneal_plan.proofs.gather.+gather.Given as goal

abbrev pub decreases-gather : goal.decreases-gather
decreases-gather l = l.others

-- the faces of the labels so far
abbrev pub invariant-loop-label : goal.invariant-loop-label
invariant-loop-label l =
    l.all.items ≡ l.fn.all.items ++ faces_out l.centre.dim l.rows (flat_map (λ x. grown l.rows l.centre.vertex (l.others - 1) x (with l.face x)) (take l.label-index l.label-items))
