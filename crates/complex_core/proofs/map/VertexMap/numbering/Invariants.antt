use Rattle.std.proofs.Common.{◌≡◌, take}
use Rattle.complex_core.specs.Maps.{numbered}
use Rattle.complex_core.proofs.map.VertexMap.numbering.Given as goal

abbrev pub invariant-loop-position : goal.invariant-loop-position
invariant-loop-position l = l.pairs.items ≡ numbered 1 (take l.position l.labels)
