use Rattle.std.proofs.Common.{take}
use Rattle.cert_replay.proofs.RowSteps.{TakesPart}
use Rattle.cert_replay.proofs.facet_set.take_facet.Given as goal

abbrev pub invariant-loop-label : goal.invariant-loop-label
invariant-loop-label l = TakesPart l.facet (take l.label-index l.label-items) l.fn.rows l.rows
