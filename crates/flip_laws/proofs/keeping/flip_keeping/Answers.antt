use Rattle.flip_laws.proofs.Replays.{flip_keeps_on}
use Rattle.flip_laws.proofs.keeping.flip_keeping.Goals as goal

pub returns-in-Ok-clause-kept : goal.returns-in-Ok-clause-kept
returns-in-Ok-clause-kept c = flip_keeps_on c.args.complex.now c.apply.new.complex c.args.flip.now.a c.args.flip.now.b c.facets-facets.ensures.complex c.in-Ok.ensures.faces.first c.in-Ok.ensures.faces.second c.in-Ok.ensures.legal c.in-Ok.ensures.ok
