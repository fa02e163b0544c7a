use Rattle.cert_replay.proofs.VertexLists.{same_complexes}
use Rattle.cert_replay.proofs.judge.is_same.Goals as goal

pub returns-then-dim : goal.returns-then-dim
returns-then-dim c = same_complexes c.args.first.now c.args.second.now c.dim.result c.dim-2.result c.facets.result.now c.facets-then-dim.result.now c.eq.result c.dim.ensures.dim c.dim-2.ensures.dim c.if-dim.true c.facets.ensures.facets c.facets-then-dim.ensures.facets c.eq.ensures
