use Rattle.std.proofs.Common.{rules}
use Rattle.make_complex.proofs.Flipping.{too_many, made_on}
use Rattle.make_complex.proofs.draws.make_within.Goals as goal

pub returns-then-facets-len-clause-made : goal.returns-then-facets-len-clause-made
returns-then-facets-len-clause-made c =
    too_many c.args.complex.now c.args.flip.now.a c.args.flip.now.b c.facets.ensures.complex c.len.ensures.face c.len-2.ensures.face c.requires.legal (search rules)

pub returns-clause-made : goal.returns-clause-made
returns-clause-made c =
    made_on c.args.complex.now _ c.args.stars.now _ c.args.flip.now.a c.args.flip.now.b _ c.facets.ensures.complex c.len.ensures.face c.len-2.ensures.face c.requires.legal (search rules) c.make_flip.ensures.places c.requires.room c.make_flip.ensures.made c.make_flip.ensures.stars
