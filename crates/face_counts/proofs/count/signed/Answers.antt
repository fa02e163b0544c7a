use Rattle.std.proofs.Common.{sym, ◌∙◌, ap, arith}
use Rattle.std.proofs.lemmas.Int.{ints}
use Rattle.face_counts.specs.Eulers.{signed}
use Rattle.face_counts.proofs.Sums.{even_not_odd, not_even_odd}
use Rattle.face_counts.proofs.count.signed.Goals as goal

pub returns-then-j-eq0 : goal.returns-then-j-eq0
returns-then-j-eq0 c = omega (arith, ints) ∙ sym (ap (λ b. signed b c.args.number) (even_not_odd c.args.j c.if-j-eq0.true))

pub returns-else-j-eq0 : goal.returns-else-j-eq0
returns-else-j-eq0 c = omega (arith, ints) ∙ sym (ap (λ b. signed b c.args.number) (not_even_odd c.args.j c.if-j-eq0.false))
