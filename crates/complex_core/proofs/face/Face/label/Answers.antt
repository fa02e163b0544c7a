use Rattle.std.proofs.Common.{arith, ap, length}
use Rattle.complex_core.proofs.Packs.{label_packed}
use Rattle.complex_core.proofs.face.Face.label.Goals as goal

pub returns-clause-label : goal.returns-clause-label
returns-clause-label c = label_packed c.self.inside.bits _ c.args.position c.args.self.now c.self.invariant c.self.view_is (omega (arith, c.requires, c.self.invariant.face.few, ap length c.self.view_is))
