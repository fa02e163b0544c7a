use Rattle.complex_core.proofs.Packs.{padded_packed}
use Rattle.complex_core.proofs.face.Face.padded.Goals as goal

pub returns-clause-places : goal.returns-clause-places
returns-clause-places c = padded_packed c.self.inside.bits c.args.self.now c.self.invariant c.self.view_is
