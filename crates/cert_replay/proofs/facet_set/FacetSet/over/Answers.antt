use Rattle.std.proofs.Common.{◌≡◌, List, ℕ, subst, sym, true, ap, length, ◌-◌, option_copied, ◌∙◌}
use Rattle.std.specs.List.Sorted.{IsStrictlySortedBy}
use Rattle.complex_core.specs.Labels.{has, face_cmp}
use Rattle.complex_core.specs.Complexes.{over}
use Rattle.complex_core.proofs.Sets.{sorted_none}
use Rattle.cert_replay.specs.Rows.{facets_at}
use Rattle.cert_replay.proofs.RowSets.{over_told, over_rises, facets_at_rise, if_ok_along, if_ok_rises, last_has}
use Rattle.cert_replay.proofs.facet_set.FacetSet.over.Goals as goal

pub returns-in-Some-clause-over : goal.returns-in-Some-clause-over
returns-in-Some-clause-over c = λ _.
    let x = c.in-Some.label.now in
    let rows = c.self.inside.rows in
    let t : has c.args.set.now x ≡ true = last_has c.args.set.now c.deref.result.now (length c.deref.result.now - 1) x c.last.result (c.deref.ensures ∙ c.labels.ensures.labels) c.last.ensures.value (ap option_copied c.in-Some.is) in
    if_ok_along (λ v. v.items) (over (facets_at x rows) c.args.set.now) (over c.args.self.now.facets c.args.set.now) c.rows_over.result (over_told c.args.self.now c.self.inside.dim rows x c.args.set.now c.self.view_is c.self.invariant.0 c.rows_over.ensures.ordered t) c.rows_over.ensures.over

pub returns-in-Some-clause-rising : goal.returns-in-Some-clause-rising
returns-in-Some-clause-rising c =
    let x = c.in-Some.label.now in
    let rows = c.self.inside.rows in
    if_ok_rises (λ v. v.items) (over (facets_at x rows) c.args.set.now) c.rows_over.result (over_rises (facets_at x rows) c.args.set.now (facets_at_rise x rows c.rows_over.ensures.ordered)) c.rows_over.ensures.over

pub returns-in-None-clause-rising : goal.returns-in-None-clause-rising
returns-in-None-clause-rising c = let P : List (List ℕ) → Type 0 = λ fs. IsStrictlySortedBy face_cmp fs in subst P (sym c.new.ensures.items) (sorted_none face_cmp)
