use Rattle.flip_journal.proofs.Leading.{SoFar}
use Rattle.flip_journal.proofs.over_map.carry.Given as goal

abbrev pub invariant-loop-flip : goal.invariant-loop-flip
invariant-loop-flip l = SoFar l.map l.flips l.flip-index l.carried.items l.names
