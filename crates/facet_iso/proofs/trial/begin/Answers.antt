use Rattle.std.proofs.Common.{rules, ◌∙◌, sym, subst, List, ℕ, ap, length}
use Rattle.std.specs.List.Sorted.{IsStrictlySortedBy}
use Rattle.std.specs.Ordering.{nat_cmp}
use Rattle.std.specs.BTreeMap.{get}
use Rattle.complex_core.proofs.Sets.{above_tail}
use Rattle.facet_iso.proofs.Trying.{begun_next}
use Rattle.facet_iso.proofs.trial.begin.Goals as goal

pub loop-position-preserved : goal.loop-position-preserved
loop-position-preserved c =
    let P : List ℕ → Type 0 = λ xs. IsStrictlySortedBy nat_cmp xs in
    begun_next c.as_slice-label-items.result.now c.args.order.now (get nat_cmp c.loop-position.images) (get nat_cmp c.insert.new.self) c.loop-position.position _ _ (subst P (sym (c.as_slice-label-items.ensures ∙ c.labels.ensures.labels)) (above_tail nat_cmp 0 c.args.least.now c.labels.ensures.face.rising)) (ap length (c.as_slice-label-items.ensures ∙ c.labels.ensures.labels) ∙ c.requires) c.loop-position.invariant c.loop-position-test.true (search rules) (search rules) c.in_ok-insert.ensures.updates.0
