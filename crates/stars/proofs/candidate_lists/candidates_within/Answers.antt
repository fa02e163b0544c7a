use Rattle.std.proofs.Common.{ap, ◌∙◌, ◌+◌, ◌-◌}
use Rattle.stars.proofs.Deciding.{all_found}
use Rattle.stars.proofs.candidate_lists.candidates_within.Goals as goal

pub returns-clause-all : goal.returns-clause-all
returns-clause-all c =
    all_found c.args.star.now.star c.args.index (c.dim.result + 1 - c.args.index) c.new.result c.deref.result.now c.args.labels.now c.add_candidates.new.all.items c.new-all.result.items c.new.ensures (c.deref.ensures ∙ c.labels.ensures.labels) c.new-all.ensures.items c.in_ok-add_candidates.ensures (ap (λ d. d + 1 - c.args.index) c.dim.ensures.dim)
