use Rattle.std.proofs.Common.{◌≡◌, take, get_or, false, sym, ◌∙◌}
use Rattle.complex_core.specs.Maps.{takes, reaches}
use Rattle.complex_core.proofs.Pairs.{seen_next, was_new, differ_next}
use Rattle.complex_core.proofs.map.first_twice.Goals as goal

pub loop-position-preserved : goal.loop-position-preserved
loop-position-preserved c =
    let ps = c.args.pairs.now in
    let i = c.loop-position.position in
    let p = get_or ps i (0, 0) in
    let new_first : takes (take i ps) p.0 ≡ false = sym (c.loop-position.invariant.firsts p.0) ∙ was_new _ _ c.in_ok-insert.ensures.added c.if-not-branch.false in
    let new_second : reaches (take i ps) p.1 ≡ false = sym (c.loop-position.invariant.seconds p.1) ∙ was_new _ _ c.in_ok-insert-2.ensures.added c.if-not-branch-2.false in
    record {
      firsts = seen_next (λ q. q.0) ps i (0, 0) _ _ c.loop-position-test.true c.loop-position.invariant.firsts c.in_ok-insert.ensures.updates.0;
      seconds = seen_next (λ q. q.1) ps i (0, 0) _ _ c.loop-position-test.true c.loop-position.invariant.seconds c.in_ok-insert-2.ensures.updates.0;
      differ = differ_next ps i (0, 0) c.loop-position-test.true c.loop-position.invariant.differ new_first new_second;
    }
