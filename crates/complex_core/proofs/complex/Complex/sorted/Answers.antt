use Rattle.complex_core.proofs.Sorting.{sorted_complex}
use Rattle.complex_core.proofs.complex.Complex.sorted.Goals as goal

pub invariant_of-result : goal.invariant_of-result
invariant_of-result c = sorted_complex c.args.dim c.args.facets.items c.sort_sets.new.sets.items c.sort_sets.ensures c.requires.low c.requires.some c.requires.pure
