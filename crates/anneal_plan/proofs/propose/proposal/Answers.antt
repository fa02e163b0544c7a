use Rattle.anneal_plan.proofs.Proposing.{Proposed, proposed, label_positive}
use Rattle.anneal_plan.proofs.propose.proposal.Goals as goal

pub first_flip-requires-clause-label : goal.first_flip-requires-clause-label
first_flip-requires-clause-label c = label_positive c.args.free.now _ c.fresh_label-fresh.result c.requires.free c.fresh_label-fresh.ensures

pub returns : goal.returns
returns c =
    let p : Proposed c.args.star.now.star c.args.phase c.args.words.now c.args.turn c.args.free.now c.first_flip.result =
    proposed c.args.star.now.star c.args.phase c.args.words.now c.args.turn c.args.free.now c.fresh_label-fresh.result c.dim.result c.indices_of-indices.result.first c.indices_of-indices.result.count c.first_flip.result c.dim.ensures.star c.requires.free c.fresh_label-fresh.ensures c.dim.ensures.dim c.indices_of-indices.ensures.indices c.indices_of-indices.ensures.first c.first_flip.ensures in
    record { proposal = p.proposal; fits = p.fits; none = p.none }
