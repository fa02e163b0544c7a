use Rattle.std.proofs.Common.{rules}
use Rattle.facet_iso.proofs.Mapping.{same_views}
use Rattle.facet_iso.proofs.trial.same.Goals as goal

pub returns-then-dim : goal.returns-then-dim
returns-then-dim c = same_views c.args.first.now c.args.second.now c.facets.result.now c.facets-then-dim.result.now c.eq.result (search rules) c.facets.ensures.facets c.facets-then-dim.ensures.facets c.eq.ensures
