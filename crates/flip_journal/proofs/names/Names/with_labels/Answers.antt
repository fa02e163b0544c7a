use Rattle.std.proofs.Common.{◌∙◌}
use Rattle.flip_journal.proofs.Kept.{label_low_at}
use Rattle.flip_journal.proofs.names.Names.with_labels.Goals as goal

pub with_label-requires : goal.with_label-requires
with_label-requires c = label_low_at c.as_slice-label-items.result.now c.args.face.now c.loop-label.label-index (c.as_slice-label-items.ensures ∙ c.labels.ensures.labels) c.labels.ensures.face c.loop-label-test.true
