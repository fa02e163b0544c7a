use Rattle.std.proofs.Common.{◌∙◌, sym, rules, drop, ◌+◌, ap, arith}
use Rattle.complex_core.specs.Labels.{union}
use Rattle.stars.proofs.Gathered.{gathered, gathered_end, row_gathered, too_many, none_of}
use Rattle.stars.proofs.linked.labels_over.Goals as goal

pub returns-in_err-labels : goal.returns-in_err-labels
returns-in_err-labels c =
    none_of _ c.from_residual.result (search rules) (too_many c.args.rows.now (drop (c.loop-row.row-index + 1) c.args.rows.now) c.args.face.now (union c.loop-row.labels c.row-item.result) c.args.most
    (c.loop-row.invariant.all ∙ row_gathered c.loop-row.labels c.args.rows.now c.args.face.now c.row-item.result c.loop-row.row-index c.loop-row-test.true c.row-item.is (sym c.if-holds.ensures))
    (λ few. c.in_err-labels.ensures (omega (arith, few, c.requires))))

pub returns-then-len-most : goal.returns-then-len-most
returns-then-len-most c =
    too_many c.args.rows.now (drop (c.loop-row.row-index + 1) c.args.rows.now) c.args.face.now c.in_ok-labels.labels c.args.most
    (c.loop-row.invariant.all ∙ row_gathered c.loop-row.labels c.args.rows.now c.args.face.now c.row-item.result c.loop-row.row-index c.loop-row-test.true c.row-item.is (sym c.if-holds.ensures)
    ∙ ap (λ ls. gathered ls (drop (c.loop-row.row-index + 1) c.args.rows.now) c.args.face.now) (sym c.in_ok-labels.ensures.1))
    (λ few. omega (arith, few, c.if-len-most.true, c.len.ensures.len))

pub returns : goal.returns
returns c = gathered_end c.args.rows.now c.args.face.now c.loop-row.labels c.loop-row.row-index c.args.most c.loop-row-test.false c.loop-row.invariant.all c.loop-row.invariant.few
