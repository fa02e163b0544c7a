use Rattle.std.proofs.Common.{◌≡◌, ◌++◌, take, map}
use Rattle.complex_core.specs.Labels.{with}
use Rattle.make_complex.proofs.named.add_to_each.Given as goal

abbrev pub invariant-loop-set : goal.invariant-loop-set
invariant-loop-set l = l.all.items ≡ l.fn.all.items ++ map (λ f. with f l.fn.label) (take l.set-index l.sets)
