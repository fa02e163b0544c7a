use Rattle.std.proofs.Common.{rules, List, ℕ, subst, sym, ◌∙◌}
use Rattle.std.specs.List.Sorted.{IsStrictlySortedBy}
use Rattle.std.specs.Ordering.{nat_cmp}
use Rattle.complex_core.proofs.Sets.{above_tail}
use Rattle.facet_iso.proofs.Tables.{counts_next}
use Rattle.facet_iso.proofs.degrees.count_labels.Goals as goal

pub loop-label-preserved : goal.loop-label-preserved
loop-label-preserved c =
    let P : List ℕ → Type 0 = λ xs. IsStrictlySortedBy nat_cmp xs in
    counts_next c.as_slice-label-items.result.now c.loop-label.label-index c.from.result c.index_mut.result.now c.args.degrees.now.items c.loop-label.degrees.items (subst P (sym (c.as_slice-label-items.ensures ∙ c.labels.ensures.labels)) (above_tail nat_cmp 0 c.args.facet.now c.labels.ensures.face.rising)) c.loop-label-test.true c.from.ensures (search rules) c.index_mut.ensures.value c.loop-label.invariant
