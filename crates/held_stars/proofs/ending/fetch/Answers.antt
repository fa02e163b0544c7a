use Rattle.std.proofs.Common.{◌≡◌, ◌∙◌, ◌∷◌, ◌+◌, ap, arith}
use Rattle.board_rule.specs.Views.{counted}
use Rattle.board_rule.specs.declared.view.PassView.{PassView}
use Rattle.vertex_claims.specs.Passes.{know}
use Rattle.held_stars.proofs.LentStars.{same_passes}
use Rattle.held_stars.proofs.GivenUp.{waits_claiming, waits_journal, waits_worker}
use Rattle.held_stars.proofs.ending.fetch.Goals as goal

pub claim-requires-clause-claiming : goal.claim-requires-clause-claiming
claim-requires-clause-claiming c = let i = c.loop.invariant.2 in ap (λ (h : PassView). h.claiming) i.2 ∙ (waits_claiming (know c.args.pass.now) i.0 ∙ c.requires.claiming)

pub claim-requires-clause-free : goal.claim-requires-clause-free
claim-requires-clause-free c = let i = c.loop.invariant.2 in ap (λ (h : PassView). h.has_journal) i.2 ∙ (waits_journal (know c.args.pass.now) i.0 ∙ c.requires.free)

pub loop-preserved : goal.loop-preserved
loop-preserved c =
    let i = c.loop.invariant in
    let lost = c.in-Err.ensures.lost in
    let owner = c.in-Err._claimed.owner in
    let count = i.2.1 in (
      same_passes c.args.pass.now c.loop.pass c.claim.new.self i.0 c.claim.ensures.same,
      (λ q. lost.3 q ∙ i.1 q),
      (owner ∷ i.2.0, omega (arith, count), lost.2 ∙ ap (λ (h : PassView). counted h 0 owner) i.2.2),
    )

pub claim-requires-2-clause-claiming : goal.claim-requires-2-clause-claiming
claim-requires-2-clause-claiming c = let i = c.loop.invariant.2 in ap (λ (h : PassView). h.claiming) i.2 ∙ (waits_claiming (know c.args.pass.now) i.0 ∙ c.requires.claiming)

pub claim-requires-2-clause-free : goal.claim-requires-2-clause-free
claim-requires-2-clause-free c = let i = c.loop.invariant.2 in ap (λ (h : PassView). h.has_journal) i.2 ∙ (waits_journal (know c.args.pass.now) i.0 ∙ c.requires.free)

pub returns-in-Err-claim-clause-lost : goal.returns-in-Err-claim-clause-lost
returns-in-Err-claim-clause-lost c =
    let i = c.loop.invariant in
    let lost = c.in-Err-claim.ensures.lost in
    let owner = c.in-Err-claim.claimed.owner in
    let worker = ap (λ (h : PassView). h.worker) i.2.2 ∙ waits_worker (know c.args.pass.now) i.2.0 in
    let count = i.2.1 in
    let end = c.loop-test.false in
    let upto = c.loop.auto.counter-end in (
      i.2.0,
      omega (arith, count, end, upto),
      (lost.1.0, (λ e. lost.1.1 (e ∙ Rattle.std.proofs.Common.sym worker)), lost.1.2),
      lost.2 ∙ ap (λ (h : PassView). counted h 0 owner) i.2.2,
      (λ q. lost.3 q ∙ i.1 q),
    )
