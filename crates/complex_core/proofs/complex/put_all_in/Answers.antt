use Rattle.std.proofs.Common.{◌∙◌, refl, vec_capacity, arith}
use Rattle.complex_core.proofs.Exchanges.{rising_start, rising_next, rising_put, next_fits}
use Rattle.complex_core.proofs.complex.put_all_in.Goals as goal

pub loop-set-init : goal.loop-set-init
loop-set-init c = record {
  items = rising_start c.args.sets.now.items c.requires.rising;
  rising = c.requires.rising;
  capacity = refl;
}

pub put_in-requires-clause-room : goal.put_in-requires-clause-room
put_in-requires-clause-room c = next_fits c.args.sets.now.items c.loop-set.sets.items c.args.more.now c.set-item.result c.loop-set.set-index (vec_capacity c.loop-set.sets) c.loop-set-test.true c.set-item.is c.loop-set.invariant.items (omega (arith, c.requires.room, c.loop-set.invariant.capacity))

pub loop-set-preserved : goal.loop-set-preserved
loop-set-preserved c = record {
  items = rising_next c.args.sets.now.items c.loop-set.sets.items c.put_in.new.sets.items c.args.more.now c.set-item.result c.loop-set.set-index c.loop-set-test.true c.set-item.is c.loop-set.invariant.items c.put_in.ensures.items;
  rising = rising_put c.loop-set.sets.items c.put_in.new.sets.items c.set-item.result c.put_in.ensures.items c.loop-set.invariant.rising;
  capacity = c.put_in.ensures.capacity ∙ c.loop-set.invariant.capacity;
}
