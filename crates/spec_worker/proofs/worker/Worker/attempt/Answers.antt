use Rattle.std.proofs.Common.{ap}
use Rattle.held_stars.specs.Gates.{noted_in}
use Rattle.held_stars.proofs.Gates.{follows_then}
use Rattle.vertex_claims.specs.Passes.{know}
use Rattle.spec_worker.specs.Hearing.{flips_in}
use Rattle.spec_worker.proofs.Hearing.{kept_heard}
use Rattle.spec_worker.proofs.worker.Worker.attempt.Goals as goal

pub returns-clause-heard : goal.returns-clause-heard
returns-clause-heard g c = follows_then _ _ _ _ c.answer-answer.ensures.heard (kept_heard _ _ _ _ _ _ _ (ap (λ p. noted_in (know p).tries) c.keep.ensures.pass) (ap (λ p. flips_in (know p).mine) c.keep.ensures.pass))
