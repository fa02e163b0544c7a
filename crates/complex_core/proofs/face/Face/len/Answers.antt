use Rattle.std.proofs.Common.{arith}
use Rattle.complex_core.proofs.Zeros.{len_packed}
use Rattle.complex_core.proofs.face.Face.len.Goals as goal

pub returns-clause-len : goal.returns-clause-len
returns-clause-len c = omega (arith, len_packed c.self.inside.bits c.args.self.now c.self.invariant c.self.view_is)
