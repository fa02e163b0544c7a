use Rattle.anneal_plan.proofs.TwoRows.{not_none, flip_told}
use Rattle.anneal_plan.proofs.listed.flip_out.Goals as goal

pub unreachable-requires : goal.unreachable-requires
unreachable-requires c = not_none c.args.star.now.star c.args.face.now c.rows.result.now c.two_over.result c.rows.ensures.star (c.requires c.rows.ensures.star) c.rows.ensures.rows c.two_over.ensures c.in_default.is

pub returns : goal.returns
returns c = flip_told c.args.star.now.star c.args.face.now c.rows.result.now c.two_over.result c.in-Some.labels c.less.result c.rows.ensures.star (c.requires c.rows.ensures.star) c.rows.ensures.rows c.two_over.ensures c.in-Some.is c.less.ensures
