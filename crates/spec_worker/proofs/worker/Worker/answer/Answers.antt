use Rattle.held_stars.proofs.Gates.{follows_then, follows_both}
use Rattle.spec_worker.proofs.Hearing.{quit_heard, begun_heard}
use Rattle.spec_worker.proofs.worker.Worker.answer.Goals as goal

pub returns-in-Err-clause-heard : goal.returns-in-Err-clause-heard
returns-in-Err-clause-heard g c = follows_then _ _ _ _ c.in-Err.ensures.heard (quit_heard _ _ _ _ c.in-Err.ensures.quit.0)

pub returns-clause-heard : goal.returns-clause-heard
returns-clause-heard g c = follows_both _ _ _ _ _ _ c.in_default.ensures.heard c.try_at.ensures.heard (begun_heard _ _ _ _ _)
