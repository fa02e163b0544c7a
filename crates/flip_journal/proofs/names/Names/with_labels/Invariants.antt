use Rattle.std.proofs.Common.{◌≡◌, drop}
use Rattle.flip_journal.specs.Carried.{with_labels}
use Rattle.flip_journal.proofs.names.Names.with_labels.Given as goal

abbrev pub invariant-loop-label : goal.invariant-loop-label
invariant-loop-label l = with_labels l.names (drop l.label-index l.label-items) ≡ with_labels l.fn.self l.label-items
