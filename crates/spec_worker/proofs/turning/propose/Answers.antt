use Rattle.std.proofs.Common.{◌≡◌, ◌<◌, ◌∙◌, ℕ, true, length, get_or, IfSome, sym, ap, subst, arith}
use Rattle.complex_core.specs.Labels.{has}
use Rattle.stars.specs.StarViews.{VertexStar, KeptStar, vertices, shown}
use Rattle.anneal_plan.specs.Fits.{FitsStar}
use Rattle.anneal_plan.specs.Proposals.{proposal_of}
use Rattle.spec_worker.proofs.Turns.{lent_star}
use Rattle.spec_worker.proofs.turning.propose.Goals as goal

pub find_candidates-requires : goal.find_candidates-requires
find_candidates-requires c =
    let r = c.requires.star in
    let star = lent_star r.0 c.args.lent.now.items c.deref.result.now c.place_among-at.result c.args.try_plan.now.place c.index_mut-star.result.now r.1 c.requires.held c.deref.ensures.value c.place_among-at.ensures.there c.index_mut-star.ensures.value in
    record { dim = omega (arith, r.2, ap (λ (s : VertexStar). s.dim) star) }

pub proposal-requires-clause-dim : goal.proposal-requires-clause-dim
proposal-requires-clause-dim c =
    let r = c.requires.star in
    let star = lent_star r.0 c.args.lent.now.items c.deref.result.now c.place_among-at.result c.args.try_plan.now.place c.index_mut-star.result.now r.1 c.requires.held c.deref.ensures.value c.place_among-at.ensures.there c.index_mut-star.ensures.value in
    omega (arith, r.2, ap (λ (s : KeptStar). s.star.dim) c.find_candidates.ensures, ap (λ (s : VertexStar). s.dim) star)

pub returns-clause-proposal : goal.returns-clause-proposal
returns-clause-proposal c = λ k are.
    let star = lent_star k c.args.lent.now.items c.deref.result.now c.place_among-at.result c.args.try_plan.now.place c.index_mut-star.result.now are c.requires.held c.deref.ensures.value c.place_among-at.ensures.there c.index_mut-star.ensures.value in
    let o = c.args.try_plan.now in
    c.proposal.ensures.proposal ∙ ap (λ (s : VertexStar). proposal_of s o.phase o.words.now c.args.turn o.free.now) (ap (λ (s : KeptStar). s.star) c.find_candidates.ensures ∙ star)

pub returns-clause-fits : goal.returns-clause-fits
returns-clause-fits c = λ k are.
    let star = lent_star k c.args.lent.now.items c.deref.result.now c.place_among-at.result c.args.try_plan.now.place c.index_mut-star.result.now are c.requires.held c.deref.ensures.value c.place_among-at.ensures.there c.index_mut-star.ensures.value in
    subst (λ (s : VertexStar). IfSome c.proposal.result (FitsStar s c.args.try_plan.now.free.now)) (ap (λ (s : KeptStar). s.star) c.find_candidates.ensures ∙ star) c.proposal.ensures.fits
