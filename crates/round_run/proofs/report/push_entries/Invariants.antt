use Rattle.std.proofs.Common.{◌≡◌, ◌++◌, take}
use Rattle.flip_rules.specs.Journals.{flat}
use Rattle.flip_names.specs.Names.{named_flips}
use Rattle.round_run.proofs.report.push_entries.Given as goal

abbrev pub invariant-loop-entry : goal.invariant-loop-entry
invariant-loop-entry l = l.all.items ≡ l.fn.all.items ++ named_flips l.names (flat (take l.entry-index l.entries))
