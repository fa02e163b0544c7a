use Rattle.std.proofs.Common.{◌≡◌}
use Rattle.itertools.specs.Pool.{combination_left, combination_can}
use Rattle.complex_core.proofs.Combinations.{Coming}
use Rattle.complex_core.proofs.face.Face.subsets.Given as goal

abbrev pub invariant-loop-labels : goal.invariant-loop-labels
invariant-loop-labels l = record {
  can : combination_can l.labels-iterator;
  coming : Coming (λ x y. y ≡ x) l.size l.self l.all.items l.labels-iterator.pool.items (combination_left l.labels-iterator);
}
