use Rattle.std.proofs.Common.{◌-◌}
use Rattle.make_complex.specs.Draws.{made_complex}
use Rattle.make_complex.proofs.Drawing.{IsOnWay}
use Rattle.make_complex.proofs.generate.make.Given as goal

abbrev pub invariant-loop : goal.invariant-loop
invariant-loop l = IsOnWay (made_complex l.fn.kind l.fn.dim l.fn.draws l.fn.seed) l.complex l.stars l.words (l.fn.draws - l.counter)
