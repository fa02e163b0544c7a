use Rattle.std.proofs.Common.{◌≡◌, ℕ, ◌<◌, [], get_or}
use Rattle.pseudo_test.specs.Ridges.{count}
use Rattle.pseudo_test.proofs.ridges.closed.Given as goal

abbrev pub invariant-loop-incidence : goal.invariant-loop-incidence
invariant-loop-incidence l = (k : ℕ) → k < l.incidence-index → count l.complex.facets (get_or l.incidence-items k ([], 0)).0 ≡ 2
