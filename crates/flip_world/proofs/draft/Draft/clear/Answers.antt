use Rattle.flip_world.proofs.Drafts.{made_none}
use Rattle.flip_world.proofs.draft.Draft.clear.Goals as goal

pub invariant_of-self : goal.invariant_of-self
invariant_of-self c = made_none _ _ _ c.clear.ensures.items c.clear-2.ensures.items c.clear-3.ensures.items
