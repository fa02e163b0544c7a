use Rattle.std.proofs.Common.{◌≡◌, ◌≤◌, ◌<◌, ℕ, true}
use Rattle.complex_core.specs.Labels.{has}
use Rattle.complex_core.specs.Complexes.{ComplexView}
use Rattle.complex_core.specs.Maps.{used}
use Rattle.stars.specs.StarViews.{IsStarListOf}
use Rattle.make_complex.proofs.draws.least_unused.Given as goal

-- the labels so far are used
abbrev pub invariant-loop-before : goal.invariant-loop-before
invariant-loop-before l = (k : ComplexView) → IsStarListOf k l.fn.stars → (x : ℕ) → 0 < x → x ≤ l.before → has (used k.facets) x ≡ true
