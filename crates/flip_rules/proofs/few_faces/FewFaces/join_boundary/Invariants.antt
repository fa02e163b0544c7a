use Rattle.std.proofs.Common.{◌≡◌, take, map, length}
use Rattle.complex_core.specs.Labels.{union, without}
use Rattle.flip_rules.proofs.few_faces.FewFaces.join_boundary.Given as goal

abbrev pub invariant-loop-position : goal.invariant-loop-position
invariant-loop-position l = record {
  made : take l.position l.all ≡ map (λ x. union l.first (without l.second x)) (take l.position l.label-items);
  long : length l.all ≡ 8;
}
