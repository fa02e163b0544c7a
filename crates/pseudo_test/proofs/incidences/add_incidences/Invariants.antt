use Rattle.std.proofs.Common.{◌≡◌, ◌++◌, map, take}
use Rattle.complex_core.specs.Labels.{without}
use Rattle.pseudo_test.proofs.incidences.add_incidences.Given as goal

abbrev pub invariant-loop-label : goal.invariant-loop-label
invariant-loop-label l = l.all.items ≡ l.initial.all.items ++ map (λ x. (without l.facet x, x)) (take l.label-index l.label-items)
