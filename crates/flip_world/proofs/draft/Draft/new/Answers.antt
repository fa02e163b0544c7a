use Rattle.flip_world.proofs.Drafts.{made_none}
use Rattle.flip_world.proofs.draft.Draft.new.Goals as goal

pub invariant_of-result : goal.invariant_of-result
invariant_of-result c = made_none _ _ _ c.new.ensures.items c.new-2.ensures.items c.new-3.ensures.items
