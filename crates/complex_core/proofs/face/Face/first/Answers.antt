use Rattle.complex_core.proofs.Packs.{first_packed}
use Rattle.complex_core.proofs.face.Face.first.Goals as goal

pub returns : goal.returns
returns c = first_packed c.self.inside.bits c.args.self.now c.self.invariant c.self.view_is
