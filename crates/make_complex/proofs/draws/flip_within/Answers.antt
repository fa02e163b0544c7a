use Rattle.make_complex.proofs.Flipping.{illegal_is}
use Rattle.make_complex.proofs.draws.flip_within.Goals as goal

pub returns-in-Err-clause-made : goal.returns-in-Err-clause-made
returns-in-Err-clause-made c = illegal_is c.args.complex.now c.args.flip.now.a c.args.flip.now.b _ _ c.in-Err.is (c.check.ensures.broken_rule c.args.complex.now c.requires.stars)
