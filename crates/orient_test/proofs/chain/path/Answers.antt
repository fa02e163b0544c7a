use Rattle.std.proofs.Common.{◌≡◌, ◌<◌, ap, arith, get_or}
use Rattle.orient_test.specs.declared.search.Reached.{Reached}
use Rattle.orient_test.specs.Spreads.{at}
use Rattle.orient_test.proofs.Chains.{same_place, climb_next}
use Rattle.orient_test.proofs.chain.path.Goals as goal

pub loop-position-preserved : goal.loop-position-preserved
loop-position-preserved c =
    let rs = c.args.reached.now in
    let now = c.loop-position.position in
    let one = get_or rs now c.index-reached-position.result in
    let two = get_or rs now c.index-reached-position-in-loop-position.result in
    let above : 0 < now = omega (arith, c.loop-position-test.true) in
    let e1 : one ≡ at rs now = same_place rs now c.index-reached-position.result c.loop-position.invariant.inside in
    let f2 : two.from ≡ (at rs now).from = ap (λ (r : Reached). r.from) (same_place rs now c.index-reached-position-in-loop-position.result c.loop-position.invariant.inside) in
    record {
      inside = omega (arith, f2, c.requires.earlier now above c.loop-position.invariant.inside, c.loop-position.invariant.inside);
      climbs = climb_next rs c.loop-position.path.items c.push.new.self.items c.args.position now two.from one.facet c.loop-position.invariant.climbs above c.loop-position.invariant.inside (ap (λ (r : Reached). r.facet) e1) c.in_ok-push.ensures.items f2;
    }
