use Rattle.std.proofs.Common.{◌≡◌, ◌≤◌, ◌∷◌, [], take, length}
use Rattle.complex_core.specs.Complexes.{over}
use Rattle.flip_rules.proofs.few_faces.FewFaces.holding.Given as goal

abbrev pub invariant-loop-set : goal.invariant-loop-set
invariant-loop-set l = record {
  made : take l.count l.all ≡ over (take l.set-index l.sets) (l.label ∷ []);
  few : l.count ≤ l.set-index;
  long : length l.all ≡ 8;
}
