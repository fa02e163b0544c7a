use Rattle.link_check.proofs.Judged.{NoneBelow}
use Rattle.link_check.proofs.bad.first_bad.Given as goal

abbrev pub invariant-loop-size : goal.invariant-loop-size
invariant-loop-size l = NoneBelow l.complex l.size
