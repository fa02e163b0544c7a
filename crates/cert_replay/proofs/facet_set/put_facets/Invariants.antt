use Rattle.std.proofs.Common.{take}
use Rattle.cert_replay.specs.Rows.{Puts}
use Rattle.cert_replay.proofs.facet_set.put_facets.Given as goal

abbrev pub invariant-loop-facet : goal.invariant-loop-facet
invariant-loop-facet l = Puts (take l.facet-index l.facets) l.fn.rows l.rows
