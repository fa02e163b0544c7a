use Rattle.std.proofs.Common.{sym, subst}
use Rattle.std.specs.Ordering.{nat_cmp}
use Rattle.complex_core.specs.Labels.{IsRising}
use Rattle.complex_core.proofs.Sets.{above_cons, sorted_none}
use Rattle.stars.specs.StarViews.{vertices, shown}
use Rattle.held_stars.proofs.hold.Hold.begin.Goals as goal

pub lend-requires-clause-rising : goal.lend-requires-clause-rising
lend-requires-clause-rising c = subst (λ l. IsRising (vertices (shown l))) (sym c.clear-2.ensures.items) (above_cons nat_cmp 0 _ tt (sorted_none nat_cmp))
