use Rattle.std.proofs.Common.{rules}
use Rattle.anneal_plan.proofs.TwoRows.{is_listed, none_at, some_at}
use Rattle.anneal_plan.proofs.listed.flip_at_place.Goals as goal

pub returns-in_err-face : goal.returns-in_err-face
returns-in_err-face c = λ index l. none_at c.args.star.now.star index c.args.faces.now c.args.place _ l (search rules) (search rules)

pub flip_out-requires : goal.flip_out-requires
flip_out-requires c = λ h. is_listed c.args.star.now.star c.requires.0 c.args.faces.now c.args.place c.in_ok-face.face h c.requires.1 (search rules)

pub returns : goal.returns
returns c = λ index l. some_at c.args.star.now.star index c.args.faces.now c.args.place c.in_ok-face.face c.flip_out.result l (search rules) c.flip_out.ensures
