use Rattle.complex_core.proofs.Packs.{packed_same}
use Rattle.std.proofs.Common.{refl}
use Rattle.complex_core.proofs.face.FacePartialEq.eq.Goals as goal

pub returns : goal.returns
returns c = packed_same c.self.inside.bits c.other.inside.bits _ _ _ c.self.invariant c.other.invariant c.self.view_is c.other.view_is refl
