use Rattle.std.proofs.Common.{◌≡◌, drop}
use Rattle.complex_core.specs.Labels.{holds}
use Rattle.complex_core.proofs.face.Face.holds.Given as goal

abbrev pub invariant-loop-position : goal.invariant-loop-position
invariant-loop-position l = holds l.self l.other ≡ holds l.self (drop l.position l.other)
