use Rattle.std.specs.Ordering.{nat_cmp}
use Rattle.std.specs.BTreeMap.{get}
use Rattle.facet_iso.proofs.Trying.{Begun}
use Rattle.facet_iso.proofs.trial.begin.Given as goal

abbrev pub invariant-loop-position : goal.invariant-loop-position
invariant-loop-position l = Begun l.label-items l.order (get nat_cmp l.images) l.position
