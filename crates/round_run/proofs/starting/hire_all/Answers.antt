use Rattle.std.proofs.Common.{◌∷◌, [], length, ap, arith, length-append}
use Rattle.board_rule.specs.Views.{living}
use Rattle.board_rule.specs.declared.view.MainView.{MainView}
use Rattle.vertex_claims.specs.Passes.{main_knows, handed}
use Rattle.round_run.specs.Reports.{scene}
use Rattle.round_run.proofs.Newcomers.{one_hired}
use Rattle.round_run.proofs.starting.hire_all.Goals as goal

pub loop-preserved : goal.loop-preserved
loop-preserved c =
    let i = c.loop.invariant in
    let one = c.in_ok-hire.ensures in
    let items = c.in_ok-push.ensures.items in
    let counted = one.counted in
    let handed_is = counted.0 in
    let back = ap (λ (x : MainView). length x.back) counted.1 in
    let count = ap length items in
    record {
      main = one.main;
      handed_are = omega (arith, handed_is, i.handed_are);
      back = omega (arith, back, i.back, length-append (main_knows c.loop.main).back (living ∷ []));
      count = omega (arith, count, i.count, length-append c.loop.workers.items (c.in_ok-hire.field-0 ∷ []));
      workers = one_hired (scene c.args.start.now c.args.places c.args.round c.args.plan.now) _ _ _ _ _ (handed c.loop.main) i.workers i.count i.handed_are one.worker items;
    }
