use Rattle.flip_options.proofs.Descending.{on_places}
use Rattle.flip_options.proofs.descent.make.Goals as goal

pub flip-requires-clause-places : goal.flip-requires-clause-places
flip-requires-clause-places c = on_places _ _ _ c.requires.1.rows c.requires.2
