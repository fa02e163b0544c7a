use Rattle.std.proofs.Common.{◌∙◌, ◌+◌, List, ℕ, sym, ap, get_or, take, arith}
use Rattle.std.proofs.lemmas.List.{take_more}
use Rattle.complex_core.specs.Labels.{has}
use Rattle.vertex_claims.specs.Passes.{know}
use Rattle.held_stars.proofs.LentStars.{positive_at, same_passes, take_all}
use Rattle.held_stars.proofs.Claims.{held_more}
use Rattle.held_stars.proofs.Gates.{follows_both, keeps_both}
use Rattle.held_stars.proofs.InOrder.{only_next, only_some, only_all, ended_at}
use Rattle.held_stars.proofs.claiming.claim_labels.Goals as goal
use Rattle.complex_core.proofs.Members.{has_place}

pub claim_label-requires-clause-label : goal.claim_label-requires-clause-label
claim_label-requires-clause-label g c =
    let labels = c.args.labels.now in
    let i = c.loop-label.label-index in
    (positive_at labels i c.requires.labels.rising c.loop-label-test.true, c.requires.places (get_or labels i 0) (has_place labels i c.loop-label-test.true))

pub claim_label-requires-clause-going : goal.claim_label-requires-clause-going
claim_label-requires-clause-going g c =
    let r = c.requires.going in
    let i = c.loop-label.invariant.5 r.0 r.1 r.2 r.4 r.3 in
    (r.0, i.0, i.1, i.2)

pub returns-in-Err-clause-ends : goal.returns-in-Err-clause-ends
returns-in-Err-clause-ends g c = λ s now going labels made.
    let i = c.loop-label.invariant.5 s now going labels made in
    c.in-Err.ensures.ends s i.0 i.1 (labels (get_or c.args.labels.now c.loop-label.label-index 0) (has_place c.args.labels.now c.loop-label.label-index c.loop-label-test.true)) i.2

pub loop-label-preserved : goal.loop-label-preserved
loop-label-preserved g c =
    let labels = c.args.labels.now in
    let i = c.loop-label.label-index in
    let label = get_or labels i 0 in
    let inv = c.loop-label.invariant in
    let e = c.in_default.ensures in
    let longer = inv.3 in
    let more = e.hold.2 in
    let later = inv.6 in (
      same_passes c.args.pass.now c.loop-label.pass c.claim_label.new.pass inv.0 e.same,
      e.hold.0 ∙ inv.1,
      e.hold.1,
      omega (arith, longer, more),
      (λ q h. held_more (know c.loop-label.pass).items (know c.claim_label.new.pass).items (take i labels) label e.held inv.4 e.label q (ap (λ (l : List ℕ). has l q) (sym (take_more labels i 0 c.loop-label-test.true)) ∙ h)),
      (λ s now going all made.
          let j = inv.5 s now going all made in
          let k = e.going s j.0 j.1 (all label (has_place labels i c.loop-label-test.true)) j.2 in
          (k.0, k.1, k.2, k.3 ∙ j.3)),
      omega (arith, later, e.later),
      e.kept.0 ∙ inv.7,
      e.kept.1 ∙ inv.8,
      e.kept.2 ∙ inv.9,
      follows_both _ _ _ _ _ _ inv.10 e.heard (λ h k g. keeps_both _ _ _ _ _ _ _ h k g),
      only_next labels i (know c.args.pass.now).items (know c.loop-label.pass).items (know c.claim_label.new.pass).items c.loop-label-test.true inv.11 e.only,
    )

pub returns-clause-held : goal.returns-clause-held
returns-clause-held g c = λ q h. c.loop-label.invariant.4 q (ap (λ (l : List ℕ). has l q) (take_all c.args.labels.now c.loop-label.label-index c.loop-label-test.false) ∙ h)

pub returns-in-Err-clause-heard : goal.returns-in-Err-clause-heard
returns-in-Err-clause-heard g c = follows_both _ _ _ _ _ _ c.loop-label.invariant.10 c.in-Err.ensures.heard (λ h k g. keeps_both _ _ _ _ _ _ _ h k g)

pub returns-in-Err-clause-only : goal.returns-in-Err-clause-only
returns-in-Err-clause-only g c =
    only_some c.args.labels.now (c.loop-label.label-index + 1) (know c.args.pass.now).items (know c.claim_label.new.pass).items
    (only_next c.args.labels.now c.loop-label.label-index (know c.args.pass.now).items (know c.loop-label.pass).items (know c.claim_label.new.pass).items c.loop-label-test.true c.loop-label.invariant.11 c.in-Err.ensures.only)

pub returns-in-Err-clause-order : goal.returns-in-Err-clause-order
returns-in-Err-clause-order g c =
    ended_at c.args.labels.now c.loop-label.label-index (know c.args.pass.now).items (know c.loop-label.pass).items (know c.claim_label.new.pass).items c.in-Err.answer c.loop-label-test.true
    c.loop-label.invariant.4 c.in-Err.ensures.held c.loop-label.invariant.11 c.in-Err.ensures.only c.in-Err.ensures.refused

pub returns-clause-only : goal.returns-clause-only
returns-clause-only g c = only_all c.args.labels.now c.loop-label.label-index (know c.args.pass.now).items (know c.loop-label.pass).items c.loop-label-test.false c.loop-label.invariant.11
