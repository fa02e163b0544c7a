use Rattle.complex_core.proofs.Packs.{empty_packed}
use Rattle.complex_core.proofs.face.Face.is_empty.Goals as goal

pub returns : goal.returns
returns c = empty_packed c.self.inside.bits c.args.self.now c.self.invariant c.self.view_is
