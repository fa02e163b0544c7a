use Rattle.std.proofs.Common.{◌∙◌, arith}
use Rattle.make_complex.proofs.Computed.{simplex_labels, simplex_is}
use Rattle.make_complex.proofs.named.simplex.Goals as goal

pub face_of-requires : goal.face_of-requires
face_of-requires c = (simplex_labels c.args.dim c.requires.low c.requires.high).face

pub returns : goal.returns
returns c = c.in_ok-all.ensures.subsets ∙ simplex_is c.args.dim _ c.face_of.result c.requires.low c.requires.high c.face_of.ensures (omega arith)
