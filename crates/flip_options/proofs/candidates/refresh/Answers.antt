use Rattle.flip_options.proofs.Refreshing.{refreshed_some, refreshed_gone}
use Rattle.flip_options.proofs.candidates.refresh.Goals as goal

pub returns-in_ok-insert-in-Some : goal.returns-in_ok-insert-in-Some
returns-in_ok-insert-in-Some c = refreshed_some _ _ _ _ _ _ c.len.ensures.len c.in-Some.ensures c.in_ok-insert-in-Some.ensures.entries c.in_ok-insert-in-Some.ensures.updates.0

pub returns-in-None : goal.returns-in-None
returns-in-None c = refreshed_gone _ _ _ _ _ c.len.ensures.len c.in-None.ensures c.remove.ensures.entries c.remove.ensures.updates.0
