use Rattle.std.proofs.Common.{◌-◌}
use Rattle.flip_journal.proofs.Gaps.{Narrows}
use Rattle.flip_journal.proofs.names.gap.Given as goal

abbrev pub invariant-loop-low : goal.invariant-loop-low
invariant-loop-low l = Narrows l.numbers l.low l.high

abbrev pub decreases-loop-low : goal.decreases-loop-low
decreases-loop-low l = l.high - l.low
