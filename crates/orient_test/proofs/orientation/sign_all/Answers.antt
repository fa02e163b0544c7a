use Rattle.std.specs.BTreeMap.{get}
use Rattle.complex_core.specs.Labels.{face_cmp}
use Rattle.orient_test.proofs.Orienting.{sign_step}
use Rattle.orient_test.proofs.orientation.sign_all.Goals as goal

pub loop-one-preserved : goal.loop-one-preserved
loop-one-preserved c = sign_step c.args.reached.now c.loop-one.one-index c.one-item.result (get face_cmp c.args.signs.now) (get face_cmp c.loop-one.signs) (get face_cmp c.insert.new.self) c.loop-one-test.true c.one-item.is c.loop-one.invariant c.in_ok-insert.ensures.updates.0
