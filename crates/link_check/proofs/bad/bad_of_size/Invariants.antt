use Rattle.link_check.proofs.Judged.{GoodUpTo}
use Rattle.link_check.proofs.bad.bad_of_size.Given as goal

abbrev pub invariant-loop-face : goal.invariant-loop-face
invariant-loop-face l = GoodUpTo l.complex l.face-items l.face-index
