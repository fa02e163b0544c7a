use Rattle.cert_replay.proofs.VertexLists.{ShownSoFar}
use Rattle.cert_replay.proofs.judge.replay_lists.Given as goal

abbrev pub invariant-loop-list : goal.invariant-loop-list
invariant-loop-list l = ShownSoFar l.complex l.lists l.list-index l.flips
