use Rattle.stars.proofs.Deciding.{told}
use Rattle.stars.proofs.candidate_lists.is_candidate.Goals as goal

pub returns : goal.returns
returns c = told c.args.star.now.star c.args.face.now c.dim.result c.rows.result.now c.flip_at.result c.is_some.result c.dim.ensures.star c.requires.some c.requires.small c.dim.ensures.dim c.rows.ensures.rows c.flip_at.ensures c.is_some.ensures
