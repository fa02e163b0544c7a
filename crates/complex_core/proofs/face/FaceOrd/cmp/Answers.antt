use Rattle.complex_core.proofs.Packs.{packed_order}
use Rattle.complex_core.proofs.face.FaceOrd.cmp.Goals as goal

pub returns : goal.returns
returns c = packed_order c.self.inside.bits c.other.inside.bits _ _ _ c.self.invariant c.other.invariant c.self.view_is c.other.view_is c.cmp.ensures
