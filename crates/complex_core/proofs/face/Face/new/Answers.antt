use Rattle.complex_core.proofs.Packs.{none_packed, none_unpacked}
use Rattle.complex_core.proofs.face.Face.new.Goals as goal

pub invariant_of-result : goal.invariant_of-result
invariant_of-result c = none_packed

pub returns : goal.returns
returns c = none_unpacked
