use Rattle.make_complex.proofs.Faces.{never_refused}
use Rattle.make_complex.proofs.named.face_of.Goals as goal

pub unreachable-requires : goal.unreachable-requires
unreachable-requires c = never_refused c.args.labels.now c.in-Err.field-0 c.requires c.in-Err.ensures.err
