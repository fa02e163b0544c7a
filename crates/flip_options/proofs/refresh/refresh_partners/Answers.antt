use Rattle.std.proofs.Common.{◌+◌, sym, ◌∙◌, ap, refl, subst}
use Rattle.complex_core.specs.Labels.{without}
use Rattle.flip_options.specs.Candidates.{Candidates, Refreshed}
use Rattle.flip_options.proofs.Looking.{left_next, left_skip, left_end, IsLeft}
use Rattle.flip_options.proofs.refresh.refresh_partners.Goals as goal
use Rattle.flip_options.proofs.refresh.refresh_partners.Goals.{then-holds+in_ok-refresh, else-holds}

pub loop-facet-preserved : goal.loop-facet-preserved
loop-facet-preserved c =
    let P : Candidates → Type 0 = λ m. Refreshed c.args.stars.now c.args.candidates.now m (λ k a. IsLeft c.near-facet-items.result.now c.without-rest.result c.args.other.now (c.loop-facet.facet-index + 1) a) in
    elim c.if-holds.branch [
      | then-holds+in_ok-refresh w ↦ subst P (sym w.candidates-is) (left_next _ _ _ _ _ _ _ _ _ _ c.loop-facet.invariant w.in_ok-refresh.ensures w.less.ensures c.loop-facet-test.true c.facet-item.is)
      | else-holds w ↦ subst P (sym w.candidates-is) (left_skip _ _ _ _ _ _ _ _ c.loop-facet.invariant (sym c.holds.ensures ∙ w.if-holds.false) c.loop-facet-test.true c.facet-item.is)
    ]

pub returns : goal.returns
returns c = left_end _ _ _ _ _ _ _ _ c.loop-facet.invariant c.loop-facet-test.false refl (c.without-rest.ensures ∙ ap (without c.args.other.now) c.label.ensures.label) c.requires.some c.label.ensures.face c.near-facet-items.ensures.over
