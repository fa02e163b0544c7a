use Rattle.round_run.proofs.Histories.{entry_passes}
use Rattle.flip_names.specs.Names.{takes_flips, takes_flip}
use Rattle.std.proofs.Common.{ap, ◌∙◌}
use Rattle.round_run.proofs.report.push_entries.Goals as goal

pub push_named-requires : goal.push_named-requires
push_named-requires c = ap (takes_flips c.args.names.now) c.flips.ensures ∙ entry_passes (takes_flip c.args.names.now) c.args.entries.now _ _ c.requires c.loop-entry-test.true c.entry-item.is
