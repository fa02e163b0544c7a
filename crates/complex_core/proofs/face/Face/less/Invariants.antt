use Rattle.std.proofs.Common.{◌≡◌, drop}
use Rattle.complex_core.specs.Links.{less}
use Rattle.complex_core.proofs.face.Face.less.Given as goal

abbrev pub invariant-loop-position : goal.invariant-loop-position
invariant-loop-position l = less l.fn.self l.other ≡ less l.all (drop l.position l.other)
