use Rattle.std.proofs.Common.{◌∙◌}
use Rattle.cert_replay.proofs.RowSteps.{takes_label, takes_facet}
use Rattle.cert_replay.proofs.facet_set.take_facet.Goals as goal

pub loop-label-preserved : goal.loop-label-preserved
loop-label-preserved c = takes_label c.args.facet.now c.as_slice-label-items.result.now c.loop-label.label-index c.from.result c.args.rows.now c.loop-label.rows c.remove.new.self c.from.ensures c.loop-label-test.true c.loop-label.invariant c.remove.ensures.updates.0

pub returns : goal.returns
returns c = takes_facet c.args.facet.now c.as_slice-label-items.result.now c.loop-label.label-index c.args.rows.now c.loop-label.rows (c.as_slice-label-items.ensures ∙ c.labels.ensures.labels) c.loop-label-test.false c.loop-label.invariant
