use Rattle.facet_iso.proofs.Tables.{Counts}
use Rattle.facet_iso.proofs.degrees.count_labels.Given as goal

abbrev pub invariant-loop-label : goal.invariant-loop-label
invariant-loop-label l = Counts l.label-items l.label-index l.fn.degrees.items l.degrees.items
