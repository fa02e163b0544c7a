-- What two searches side by side find.
use Rattle.std.proofs.Common.{◌≡◌, ℕ, Bool, true, not, List, Option, Some, None, is_some, Result, Ok, Err, IfOk, IfNone, IfSome, sym, ◌∙◌, subst}
use Rattle.complex_core.specs.Complexes.{ComplexView, IsComplex}
use Rattle.facet_iso.specs.Isomorphisms.{IsFit, IsLeastMap}
use Rattle.anneal_plan.specs.Numbers.{Numbers}
use Rattle.round_run.specs.Reports.{ReportView}
use Rattle.round_run.specs.Searches.{IsOpened}
use Rattle.equal_text.specs.Lists.{told_end}
use Rattle.equal_search.specs.Comparing.{AreCompared, AreEqual, IsFound}
use Rattle.equal_search.specs.Pairs.{CanCompare, IsJoined}
use Rattle.equal_search.specs.declared.search.EqualFound.{EqualFound}
use Rattle.equal_search.specs.declared.search.EqualFound.TheVariants.{Equal, Undecided}
use Rattle.equal_search.proofs.Told.{can_compare}

pub can_opened : (k : ComplexView) (plan : Numbers) (r : ReportView) → IsComplex k → IsFit k → IsOpened k plan r → CanCompare r
can_opened k plan r c f o = can_compare k plan r c f o.ok

-- where nothing is held, what holds then
pub when_none : {X : Type 0} (P : Type 0) (o : Option X) (t : Bool) → IfNone o P → is_some o ≡ not t → t ≡ true → P
when_none P None t h e i = h
when_none P (Some x) t h e i = let z : true ≡ not true = e ∙ (λ j. not (i j)) in cc

-- a map from the one end to the other is what is found
found_here : (k l : ComplexView) (plan : Numbers) (r s : ReportView) (between : List (ℕ × ℕ)) (found : EqualFound) → IsLeastMap (told_end r) (told_end s) between → AreCompared k l plan r s → IsJoined r s between found → IsFound k l plan found
found_here k l plan r s between (Equal t u flips pairs) least c h =
    let here : AreEqual k l plan r s flips.items pairs = record { compared = c; between = between; least = least; joined = h.2 } in
    subst (λ (x : ReportView). AreEqual k l plan x u flips.items pairs) (sym h.0) (subst (λ (y : ReportView). AreEqual k l plan r y flips.items pairs) (sym h.1) here)
found_here k l plan r s between (Undecided t u) least c h = absurd h

pub found_if : {E : Type 0} (k l : ComplexView) (plan : Numbers) (r s : ReportView) (between : List (ℕ × ℕ)) (result : Result EqualFound E) → IsLeastMap (told_end r) (told_end s) between → AreCompared k l plan r s → IfOk result (IsJoined r s between) → IfOk result (IsFound k l plan)
found_if k l plan r s between (Ok found) least c h = found_here k l plan r s between found least c h
found_if k l plan r s between (Err e) least c h = tt

-- of the map that a comparison found
pub least_of : (o : Option (List (ℕ × ℕ))) (between : List (ℕ × ℕ)) (r s : ReportView) → IfSome o (IsLeastMap (told_end r) (told_end s)) → o ≡ Some between → IsLeastMap (told_end r) (told_end s) between
least_of o between r s h e = let P : Option (List (ℕ × ℕ)) → Type 0 = λ p. IfSome p (IsLeastMap (told_end r) (told_end s)) in subst P e h
