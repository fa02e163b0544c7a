use Rattle.std.proofs.Common.{arith}
use Rattle.anneal_plan.proofs.Gathering.{none_out}
use Rattle.anneal_plan.proofs.gather.add_face.Goals as goal

pub returns-then-rows-len : goal.returns-then-rows-len
returns-then-rows-len c = none_out c.args.centre.dim c.args.rows.now c.args.face.now c.args.all.now.items (omega (arith, c.if-rows-len.true, c.len.ensures.len)) c.requires.over
