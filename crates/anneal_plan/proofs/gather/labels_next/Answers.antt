use Rattle.std.proofs.Common.{◌∙◌, ap, filter}
use Rattle.std.specs.List.{flat_map}
use Rattle.std.specs.Ordering.{nat_cmp}
use Rattle.std.proofs.lemmas.List.{take_all}
use Rattle.complex_core.specs.Rising.{rising}
use Rattle.anneal_plan.specs.Growth.{comes_next}
use Rattle.anneal_plan.proofs.Gathering.{next_of_rows}
use Rattle.anneal_plan.proofs.gather.labels_next.Goals as goal

pub returns : goal.returns
returns c =
    c.sort_labels.ensures
    ∙ ap (rising nat_cmp) (c.loop-row.invariant ∙ ap (flat_map (filter (comes_next c.args.vertex c.args.last))) (take_all c.loop-row.row-index c.args.rows.now c.loop-row-test.false))
    ∙ next_of_rows (comes_next c.args.vertex c.args.last) c.args.rows.now
