use Rattle.std.proofs.Common.{◌++◌, ◌∷◌, [], ◌∙◌, ap, List}
use Rattle.flip_rules.specs.declared.flip.Flip.{Flip}
use Rattle.flip_world.proofs.Parts.{flip_parts, flips_at}
use Rattle.flip_world.proofs.world.World.flip.Goals as goal

pub invariant_of-self-2 : goal.invariant_of-self-2
invariant_of-self-2 c = flip_parts _ c.args.self.now _ _ c.args.worker c.args.flip.now c.push.new.self c.self.view_is c.self.invariant
    (record { worker_is = c.requires; held = c.in_ok-may_flip.ensures.held; legal = c.in_ok-may_flip.ensures.legal; first = c.len-first.ensures.face; second = c.len-second.ensures.face })
    (c.in_ok-push.ensures.ok ∙ ap (λ (fs : List Flip). fs ++ c.args.flip.now ∷ []) (flips_at _ _ _ _ c.self.view_is c.requires c.index_mut.ensures.value))
