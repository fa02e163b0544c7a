use Rattle.std.proofs.Common.{◌∙◌}
use Rattle.complex_core.proofs.Runs.{held_alike}
use Rattle.complex_core.proofs.complex.Complex.is_held.Goals as goal

pub returns : goal.returns
returns c = c.any_holds.ensures ∙ held_alike c.around.result.now c.args.self.now.facets c.args.face.now c.around.ensures.over
