use Rattle.std.proofs.Common.{◌∙◌, ap}
use Rattle.std.specs.Hash as fed
use Rattle.complex_core.proofs.Packs.{number_is}
use Rattle.complex_core.proofs.face.FaceHash.hash.Goals as goal

pub returns : goal.returns
returns g c = c.hash.ensures ∙ ap (λ b. g.H.Hasher.write c.args.state.now (fed.le_bytes 16 b)) (number_is c.self.inside.bits c.args.self.now c.self.invariant c.self.view_is)
