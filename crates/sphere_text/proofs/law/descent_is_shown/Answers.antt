use Rattle.sphere_text.proofs.Shown.{descent_is_shown}
use Rattle.sphere_text.proofs.law.descent_is_shown.Goals as goal

pub returns : goal.returns
returns c = descent_is_shown
