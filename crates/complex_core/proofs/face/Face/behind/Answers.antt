use Rattle.std.proofs.Common.{arith, ap, length}
use Rattle.complex_core.proofs.Edits.{behind_packed}
use Rattle.complex_core.proofs.face.Face.behind.Goals as goal

pub overflow_sub-shift : goal.overflow_sub-shift
overflow_sub-shift c = omega (arith, c.requires, c.self.invariant.face.few, ap length c.self.view_is)

pub returns : goal.returns
returns c = behind_packed c.self.inside.bits _ c.args.position c.args.self.now c.self.invariant c.self.view_is c.requires (omega (arith, c.requires, c.self.invariant.face.few, ap length c.self.view_is))
