use Rattle.std.proofs.Common.{◌≡◌, take}
use Rattle.flip_rules.specs.Journals.{flat}
use Rattle.flip_journal.proofs.lists.flat.Given as goal

abbrev pub invariant-loop-entry : goal.invariant-loop-entry
invariant-loop-entry l = l.all.items ≡ flat (take l.entry-index l.entries)
