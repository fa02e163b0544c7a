use Rattle.std.proofs.Common.{arith}
use Rattle.flip_world.proofs.Parts.{seq_fits, commit_parts}
use Rattle.flip_world.proofs.world.World.commit.Goals as goal

pub overflow_add-seq : goal.overflow_add-seq
overflow_add-seq c = omega (arith, seq_fits _ _ _ _ _ _ c.self.view_is c.self.invariant c.requires.worker c.index-seq.ensures c.requires.few)

pub invariant_of-self-2 : goal.invariant_of-self-2
invariant_of-self-2 c = commit_parts _ _ _ _ _ c.args.worker c.index-seq.result.now c.flips-2.result.now c.index-3.result.now c.index-4.result.now c.clear.new.self c.in_ok-entry.entry c.push.new.self
    c.self.view_is c.self.invariant c.requires.worker c.index-seq.ensures
    c.flips-2.ensures
    c.index-3.ensures
    c.index-4.ensures
    c.in-Ok.ensures.ok
    c.clear.ensures
    c.in_ok-entry.ensures.ok
    c.in_ok-push.ensures.ok
