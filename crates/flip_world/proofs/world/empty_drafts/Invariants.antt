use Rattle.std.proofs.Common.{◌≡◌, replicate, []}
use Rattle.flip_world.proofs.world.empty_drafts.Given as goal

abbrev pub invariant-loop : goal.invariant-loop
invariant-loop l = l.drafts.items ≡ replicate l.counter []
