use Rattle.std.proofs.Common.{sym, subst, arith}
use Rattle.stars.specs.StarViews.{IsStarOf, shown}
use Rattle.stars.proofs.Finding.{each_at, length-shown}
use Rattle.stars.proofs.Shown.{shown_here}
use Rattle.stars.proofs.local.star_of.Goals as goal

pub returns-clause-of : goal.returns-clause-of
returns-clause-of c = λ k h. subst (IsStarOf k) (sym (shown_here c.args.near.now c.place_of.result c.index-near-place_of.result c.place_of.ensures.within c.index-near-place_of.is)) (each_at (IsStarOf k) (shown c.args.near.now) c.place_of.result c.index-near-place_of.result.star h.each (omega (arith, c.place_of.ensures.within, length-shown c.args.near.now)))
