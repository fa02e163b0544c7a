use Rattle.std.proofs.Common.{take}
use Rattle.facet_iso.specs.Degrees.{HasDegrees}
use Rattle.facet_iso.proofs.degrees.degrees.Given as goal

abbrev pub invariant-loop-facet : goal.invariant-loop-facet
invariant-loop-facet l = HasDegrees (take l.facet-index l.facet-items) l.degrees.items
