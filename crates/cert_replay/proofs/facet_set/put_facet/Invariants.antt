use Rattle.std.proofs.Common.{take}
use Rattle.cert_replay.proofs.RowSteps.{PutsPart}
use Rattle.cert_replay.proofs.facet_set.put_facet.Given as goal

abbrev pub invariant-loop-label : goal.invariant-loop-label
invariant-loop-label l = PutsPart l.facet (take l.label-index l.label-items) l.fn.rows l.rows
