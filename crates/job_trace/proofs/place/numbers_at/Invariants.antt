use Rattle.std.proofs.Common.{◌≡◌, map, take}
use Rattle.complex_core.specs.Maps.{at}
use Rattle.job_trace.proofs.place.numbers_at.Given as goal

abbrev pub invariant-loop-label : goal.invariant-loop-label
invariant-loop-label l = l.numbers.items ≡ map (at l.map) (take l.label-index l.labels)
