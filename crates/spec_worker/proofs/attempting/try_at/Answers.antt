use Rattle.std.proofs.Common.{◌≡◌, ◌∙◌, sym, ap, arith}
use Rattle.held_stars.specs.Gates.{noted_in}
use Rattle.held_stars.proofs.Gates.{follows_self, follows_both, same_noted}
use Rattle.vertex_claims.specs.Passes.{know, round_of, places_on}
use Rattle.spec_worker.proofs.BegunTries.{some_told, begun, tried_own}
use Rattle.spec_worker.proofs.Hearing.{tried_heard, busy_heard, first_noted}
use Rattle.spec_worker.proofs.attempting.try_at.Goals as goal

pub explore-made-requires-clause-dim : goal.explore-made-requires-clause-dim
explore-made-requires-clause-dim g c =
    let dim : c.dim-dim.result ≡ (know c.args.pass.now).start.dim = c.dim-dim.ensures.dim ∙ ap (λ k. k.dim) (sym c.requires.start) in
    let low = c.requires.board.2 in
    (omega (arith, dim, low), c.dim-dim.ensures.low)

pub explore-made-requires-clause-turned : goal.explore-made-requires-clause-turned
explore-made-requires-clause-turned g c =
    let won = c.in-Ok.ensures.won in
    let flips = c.in-Ok.ensures.flips in
    let t = some_told c.args.try_plan.now (places_on c.args.board.now) (know c.args.pass.now).start.dim c.requires.try_plan in
    let b = begun t.task c.args.try_plan.now c.args.pass.now c.begin_at.new.pass c.begin_at.new.hold c.dim-dim.result won.0 won.1 won.2 t.told c.requires.empty won.3 won.4 (c.dim-dim.ensures.dim ∙ ap (λ k. k.dim) (sym c.requires.start)) won.5 flips in
    (t.task, b.begun, b.told, b.of, b.turned)

pub finish-requires-clause-made : goal.finish-requires-clause-made
finish-requires-clause-made g c =
    let won = c.in-Ok.ensures.won in
    let flips = c.in-Ok.ensures.flips in
    let t = some_told c.args.try_plan.now (places_on c.args.board.now) (know c.args.pass.now).start.dim c.requires.try_plan in
    let b = begun t.task c.args.try_plan.now c.args.pass.now c.begin_at.new.pass c.begin_at.new.hold c.dim-dim.result won.0 won.1 won.2 t.told c.requires.empty won.3 won.4 (c.dim-dim.ensures.dim ∙ ap (λ k. k.dim) (sym c.requires.start)) won.5 flips in
    (t.task, b.begun, c.explore-made.ensures.commits t.task b.begun b.told b.of b.turned, c.explore-made.ensures.ends t.task b.begun b.told b.of b.turned)

pub returns-in-Ok-clause-own : goal.returns-in-Ok-clause-own
returns-in-Ok-clause-own g c = λ task told.
    let won = c.in-Ok.ensures.won in
    let flips = c.in-Ok.ensures.flips in
    let b = begun task c.args.try_plan.now c.args.pass.now c.begin_at.new.pass c.begin_at.new.hold c.dim-dim.result won.0 won.1 won.2 told c.requires.empty won.3 won.4 (c.dim-dim.ensures.dim ∙ ap (λ k. k.dim) (sym c.requires.start)) won.5 flips in
    let e = c.explore-made.ensures in
    let f = c.finish.ensures in
    tried_own task c.args.try_plan.now c.args.pass.now c.begin_at.new.pass c.explore-made.new.pass c.finish.new.pass c.begin_at.new.hold c.explore-made.new.hold c.dim-dim.result (round_of c.args.board.now) b f.entries.0 f.entries.1 c.explore-made.result c.finish.result
    (e.commits task b.begun b.told b.of b.turned) (e.ends task b.begun b.told b.of b.turned) f.answer

pub returns-in-Ok-clause-heard : goal.returns-in-Ok-clause-heard
returns-in-Ok-clause-heard g c =
    let won = c.in-Ok.ensures.won in
    let flips = c.in-Ok.ensures.flips in
    let t = some_told c.args.try_plan.now (places_on c.args.board.now) (know c.args.pass.now).start.dim c.requires.try_plan in
    let b = begun t.task c.args.try_plan.now c.args.pass.now c.begin_at.new.pass c.begin_at.new.hold c.dim-dim.result won.0 won.1 won.2 t.told c.requires.empty won.3 won.4 (c.dim-dim.ensures.dim ∙ ap (λ k. k.dim) (sym c.requires.start)) won.5 flips in
    let e = c.explore-made.ensures in
    let f = c.finish.ensures in
    follows_both _ _ _ _ _ _ e.heard f.heard
    (tried_heard t.task c.args.try_plan.now c.args.pass.now c.begin_at.new.pass c.explore-made.new.pass c.finish.new.pass c.begin_at.new.hold c.explore-made.new.hold c.dim-dim.result (round_of c.args.board.now) b f.entries.1 flips c.explore-made.result c.finish.result
    (e.commits t.task b.begun b.told b.of b.turned) (e.ends t.task b.begun b.told b.of b.turned) f.answer _ _ _ _ (same_noted _ _ won.3 ∙ first_noted _) (ap noted_in f.entries.0))

pub returns-in-Err-clause-heard : goal.returns-in-Err-clause-heard
returns-in-Err-clause-heard g c = follows_self _ _ (busy_heard _ _ _ _ _ _ (same_noted _ _ c.in-Err.ensures.lost.2))
