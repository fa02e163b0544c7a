use Rattle.std.proofs.Common.{◌-◌, length, vec_len}
use Rattle.flip_options.proofs.Descending.{Descending}
use Rattle.flip_options.proofs.descent.descend.Given as goal

abbrev pub invariant-loop-flip : goal.invariant-loop-flip
invariant-loop-flip l = Descending l.complex l.flips.items l.stars l.options

abbrev pub decreases-loop-flip : goal.decreases-loop-flip
decreases-loop-flip l = length l.complex.facets - vec_len l.flips
