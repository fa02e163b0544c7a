use Rattle.std.proofs.Common.{◌∙◌, refl, [], ◌∷◌, arith}
use Rattle.complex_core.proofs.Exchanges.{staying_none, staying_next, rising_staying}
use Rattle.complex_core.proofs.complex.take_all_out.Goals as goal

pub loop-set-init : goal.loop-set-init
loop-set-init c = record {
  items = staying_none c.args.sets.now.items;
  rising = c.requires;
  len = omega arith;
  capacity = refl;
}

pub loop-set-preserved : goal.loop-set-preserved
loop-set-preserved c = record {
  items = staying_next c.args.sets.now.items c.loop-set.sets.items c.take_out.new.sets.items c.args.out.now c.set-item.result c.loop-set.set-index c.loop-set-test.true c.set-item.is c.loop-set.invariant.items c.take_out.ensures.items;
  rising = rising_staying c.loop-set.sets.items c.take_out.new.sets.items (c.set-item.result ∷ []) c.take_out.ensures.items c.loop-set.invariant.rising;
  len = omega arith;
  capacity = c.take_out.ensures.capacity ∙ c.loop-set.invariant.capacity;
}
