use Rattle.std.proofs.Common.{◌≡◌, ◌++◌}
use Rattle.complex_core.specs.Maps.{next_after}
use Rattle.complex_core.proofs.relabel.add_spare.Given as goal

abbrev pub invariant-loop-more : goal.invariant-loop-more
invariant-loop-more l = l.labels.items ≡ l.fn.labels.items ++ next_after l.greatest l.more
