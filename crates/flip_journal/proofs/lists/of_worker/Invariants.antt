use Rattle.std.proofs.Common.{◌≡◌, take}
use Rattle.flip_rules.specs.Journals.{mine}
use Rattle.flip_journal.proofs.lists.of_worker.Given as goal

abbrev pub invariant-loop-entry : goal.invariant-loop-entry
invariant-loop-entry l = l.own.items ≡ mine (take l.entry-index l.entries) l.round l.worker
