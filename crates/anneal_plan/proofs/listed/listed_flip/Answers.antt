use Rattle.std.proofs.Common.{rules}
use Rattle.anneal_plan.proofs.TwoRows.{none_listed, listed_chosen}
use Rattle.anneal_plan.proofs.listed.listed_flip.Goals as goal

pub returns-then-count-eq0 : goal.returns-then-count-eq0
returns-then-count-eq0 c = λ index l. none_listed c.args.star.now.star index c.args.faces.now c.args.word _ l (search rules) c.if-count-eq0.true

pub returns : goal.returns
returns c = λ index l. listed_chosen c.args.star.now.star index c.args.faces.now c.args.word _ c.flip_at_place.result l (search rules) (c.flip_at_place.ensures index l)
