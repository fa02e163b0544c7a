use Rattle.std.proofs.Common.{◌≡◌, ◌-◌, ◌++◌, ◌∷◌, [], ℕ, true, length, take}
use Rattle.complex_core.specs.Labels.{has}
use Rattle.facet_iso.specs.Searches.{NoneBegins}
use Rattle.facet_iso.proofs.search.+least_from.Given as goal

abbrev pub decreases-least_from : goal.decreases-least_from
decreases-least_from l = length l.search.now.least - length l.order.now.items

abbrev pub invariant-loop-label : goal.invariant-loop-label
invariant-loop-label l = record {
  same : l.order.items ≡ l.fn.order.items;
  none : (y : ℕ) → has (take l.label-index l.label-items) y ≡ true → NoneBegins l.first l.second l.facet (l.fn.order.items ++ y ∷ []);
}
