use Rattle.flip_options.specs.Candidates.{FirstLook}
use Rattle.flip_options.proofs.Looking.{PlacedBelow}
use Rattle.flip_options.proofs.options.Options.of.Given as goal

abbrev pub invariant-loop-place : goal.invariant-loop-place
invariant-loop-place l = FirstLook l.stars l.initial.candidates l.candidates (λ k a. PlacedBelow l.place k a)
