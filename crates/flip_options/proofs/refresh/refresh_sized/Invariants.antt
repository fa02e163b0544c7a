use Rattle.std.proofs.Common.{◌≡◌, true, take}
use Rattle.complex_core.specs.Complexes.{is_facet}
use Rattle.flip_options.specs.Candidates.{Refreshed}
use Rattle.flip_options.proofs.refresh.refresh_sized.Given as goal

abbrev pub invariant-loop-part : goal.invariant-loop-part
invariant-loop-part l = Refreshed l.stars l.fn.candidates l.candidates (λ k a. is_facet (take l.part-index l.part-items) a ≡ true)
