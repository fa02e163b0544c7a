use Rattle.std.proofs.Common.{◌∙◌, ap}
use Rattle.held_stars.specs.Gates.{after_asked, is_stop}
use Rattle.held_stars.proofs.Gates.{follows_then}
use Rattle.spec_worker.proofs.turning.ask.Goals as goal

pub returns-in-Err-clause-heard : goal.returns-in-Err-clause-heard
returns-in-Err-clause-heard g c = follows_then _ _ _ _ c.in-Err.ensures.heard (λ h k e. e ∙ ap (λ b. after_asked c.args.point b h) (ap is_stop c.in-Err.ensures.quit.0))
