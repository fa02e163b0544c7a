use Rattle.std.proofs.Common.{rules}
use Rattle.stars.proofs.Gathered.{flip_found, flip_missed, flip_too_large}
use Rattle.stars.proofs.linked.flip_at.Goals as goal

pub returns-in_err-labels : goal.returns-in_err-labels
returns-in_err-labels c = flip_too_large c.args.dim c.args.rows.now c.args.face.now c.labels_over.result _ (search rules) c.labels_over.ensures (search rules)

pub returns-in_err-ok : goal.returns-in_err-ok
returns-in_err-ok c =
    flip_missed c.args.dim c.args.rows.now c.args.face.now c.in_ok-labels.labels c.less.result c.check_near.result _ (search rules) c.less.ensures c.check_near.ensures.near (search rules) (search rules)

pub returns : goal.returns
returns c =
    flip_found c.args.dim c.args.rows.now c.args.face.now c.in_ok-labels.labels c.less.result c.check_near.result (search rules) c.less.ensures c.check_near.ensures.near (search rules)
