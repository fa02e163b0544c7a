use Rattle.std.proofs.Common.{◌≡◌, ◌-◌, drop, length}
use Rattle.flip_rules.specs.Laws.{inverse_list}
use Rattle.flip_journal.proofs.lists.inverse_list.Given as goal

abbrev pub invariant-loop-done : goal.invariant-loop-done
invariant-loop-done l = l.back.items ≡ inverse_list (drop (length l.flips - l.done) l.flips)
