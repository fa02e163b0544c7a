use Rattle.std.proofs.Common.{◌≡◌, ◌++◌}
use Rattle.board_rule.proofs.data.OpenJournal.into_journal.Given as goal

abbrev pub invariant-loop-entry : goal.invariant-loop-entry
invariant-loop-entry l = l.journal ++ l.entry-iterator.rest.items ≡ l.fn.self.entries
