use Rattle.make_complex.proofs.Faces.{with_fits}
use Rattle.make_complex.proofs.named.add_to_each.Goals as goal

pub unreachable-requires : goal.unreachable-requires
unreachable-requires c = c.in_default.ensures (c.requires.label, with_fits c.args.sets.now c.loop-set.set-index c.set-item.result c.args.label c.requires.few c.loop-set-test.true c.set-item.is)
