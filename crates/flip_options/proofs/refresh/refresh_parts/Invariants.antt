use Rattle.flip_options.specs.Candidates.{Refreshed, IsPartBelow}
use Rattle.flip_options.proofs.refresh.refresh_parts.Given as goal

abbrev pub invariant-loop-size : goal.invariant-loop-size
invariant-loop-size l = Refreshed l.stars l.fn.candidates l.candidates (λ k a. IsPartBelow l.size l.set a)
