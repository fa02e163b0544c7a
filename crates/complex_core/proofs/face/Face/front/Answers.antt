use Rattle.std.proofs.Common.{arith}
use Rattle.complex_core.proofs.Edits.{front_packed}
use Rattle.complex_core.proofs.face.Face.front.Goals as goal

pub returns : goal.returns
returns c = front_packed c.self.inside.bits _ c.args.position c.args.self.now c.self.invariant c.self.view_is c.requires.inside (omega (arith, c.requires.room))
