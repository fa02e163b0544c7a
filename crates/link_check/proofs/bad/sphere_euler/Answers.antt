use Rattle.std.proofs.Common.{sym, ap, cond}
use lib.IntN.{pos, negsuc, ◌+ℤ◌}
use Rattle.face_counts.proofs.Sums.{even_not_odd, not_even_odd}
use Rattle.link_check.proofs.bad.sphere_euler.Goals as goal

pub returns-then-dim-eq0 : goal.returns-then-dim-eq0
returns-then-dim-eq0 c = sym (ap (λ b. pos 1 +ℤ cond b (negsuc 0) (pos 1)) (even_not_odd c.args.dim c.if-dim-eq0.true))

pub returns-else-dim-eq0 : goal.returns-else-dim-eq0
returns-else-dim-eq0 c = sym (ap (λ b. pos 1 +ℤ cond b (negsuc 0) (pos 1)) (not_even_odd c.args.dim c.if-dim-eq0.false))
