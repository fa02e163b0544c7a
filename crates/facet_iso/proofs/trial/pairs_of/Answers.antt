use Rattle.std.specs.Ordering.{nat_cmp}
use Rattle.std.specs.BTreeMap.{get}
use Rattle.facet_iso.proofs.Mapping.{not_missing}
use Rattle.facet_iso.proofs.trial.pairs_of.Goals as goal

pub unreachable-requires : goal.unreachable-requires
unreachable-requires c = not_missing (get nat_cmp c.args.images.now) c.args.labels.now c.loop-label.label-index 0 c.requires c.loop-label-test.true c.in_default.ensures.value
