use Rattle.std.proofs.Common.{◌≡◌, ◌+◌, true, length}
use Rattle.std.specs.Ordering.{nat_cmp}
use Rattle.std.specs.BTreeMap.{get}
use Rattle.complex_core.specs.Rising.{rising}
use Rattle.complex_core.specs.Complexes.{ComplexView, is_facet}
use Rattle.facet_iso.specs.Searches.{IsSearch}
use Rattle.facet_iso.specs.Trials.{IsSpread}
use Rattle.facet_iso.proofs.trial.spread.Given as goal

abbrev pub invariant-loop-step : goal.invariant-loop-step
invariant-loop-step l = record {
  long : length l.faces.items ≡ l.step-index + 1;
  spread : (k m : ComplexView) (h : IsSearch k m l.search) → is_facet m.facets l.facet ≡ true → rising nat_cmp l.order ≡ l.facet → IsSpread k m l.order h.walk.reached (length l.faces.items) (get nat_cmp l.images) l.faces.items;
}
