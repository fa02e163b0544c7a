use Rattle.flip_options.specs.Candidates.{Refreshed}
use Rattle.flip_options.proofs.Looking.{IsLeft}
use Rattle.flip_options.proofs.refresh.refresh_partners.Given as goal

abbrev pub invariant-loop-facet : goal.invariant-loop-facet
invariant-loop-facet l = Refreshed l.stars l.fn.candidates l.candidates (λ k a. IsLeft l.facet-items l.rest l.other l.facet-index a)
