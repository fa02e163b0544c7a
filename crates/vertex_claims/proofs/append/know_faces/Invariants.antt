use Rattle.std.proofs.Common.{take}
use Rattle.std.specs.List.{AllByRecursion}
use Rattle.flip_rules.specs.Flips.{OfFaces}
use Rattle.vertex_claims.proofs.append.know_faces.Given as goal

abbrev pub invariant-loop-flip : goal.invariant-loop-flip
invariant-loop-flip l = AllByRecursion OfFaces (take l.flip-index l.flips)
