use Rattle.std.proofs.Common.{◌∷◌, [], List, Vec, Global, true, length, map, ap, ◌∙◌, arith, rules}
use Rattle.std.proofs.lemmas.List.{map-append, length-set}
use Rattle.std.proofs.lemmas.Iterator.Adapters.{YieldsList-from_vec}
use Rattle.std.proofs.lemmas.Iterator.Consumers.{YieldsList-turn}
use Rattle.board_rule.specs.Views.{kept}
use Rattle.board_rule.specs.declared.view.MainView.{MainView}
use Rattle.vertex_claims.specs.Passes.{know, main_knows}
use Rattle.round_rules.specs.declared.tried.Tried.{Tried}
use Rattle.spec_worker.specs.Workers.{pass_of}
use Rattle.round_run.proofs.Settling.{done_at, one_settled}
use Rattle.round_run.proofs.results.settle_all.Goals as goal

pub settle-requires-clause-worker : goal.settle-requires-clause-worker
settle-requires-clause-worker c =
    let t = YieldsList-turn (YieldsList-from_vec {s = c.into_iter-worker-iterator.result} c.args.workers.items (search rules) (search rules)) c.loop-worker.yielded c.loop-worker.worker-iterator c.loop-worker.yielded_by c.next.result c.next.new.self c.in-Some.worker c.in-Some.is c.next.ensures.steps in
    (done_at c.requires.done.0 c.args.board.now 1 _ c.args.workers.items c.in-Some.worker c.requires.done.1 t.0 t.1).of_board

pub loop-worker-preserved : goal.loop-worker-preserved
loop-worker-preserved c =
    let i = c.loop-worker.invariant in
    let t = YieldsList-turn (YieldsList-from_vec {s = c.into_iter-worker-iterator.result} c.args.workers.items (search rules) (search rules)) c.loop-worker.yielded c.loop-worker.worker-iterator c.loop-worker.yielded_by c.next.result c.next.new.self c.in-Some.worker c.in-Some.is c.next.ensures.steps in
    let done = done_at c.requires.done.0 c.args.board.now 1 _ c.args.workers.items c.in-Some.worker c.requires.done.1 t.0 t.1 in
    let one = c.in_ok-account.ensures in
    let listed : Vec Tried Global → List Tried = λ v. v.items in
    let pass_view = know (pass_of c.in-Some.worker) in
    let back = ap (λ (x : MainView). length x.back) one.kept in
    record {
      can = tt;
      finite = tt;
      main = one.main;
      back = omega (arith, back, i.back, length-set (main_knows c.loop-worker.main).back pass_view.worker (kept true pass_view.mine pass_view.tries));
      settled = one_settled c.args.board.now (main_knows c.loop-worker.main) (main_knows c.settle.new.main) c.loop-worker.yielded c.loop-worker.marks.items _ (map listed c.loop-worker.tries.items) _ c.in-Some.worker _ _ (length c.args.workers.items)
          i.settled i.back t.0 done.number one.kept one.marks one.answers c.in_ok-push-2.ensures.items (ap (map listed) c.in_ok-push.ensures.items ∙ map-append listed c.loop-worker.tries.items (c.in_ok-account.account.answers ∷ []));
    }
