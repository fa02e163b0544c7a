use Rattle.flip_options.proofs.FirstLooking.{other_rows}
use Rattle.flip_options.proofs.first_look.look.Goals as goal

pub returns-then-rows-len : goal.returns-then-rows-len
returns-then-rows-len c = other_rows c.args.stars.now c.args.candidates.now c.args.rows.now c.args.face.now _ _ c.dim.ensures c.len.ensures.len c.if-rows-len.true c.requires.rows
