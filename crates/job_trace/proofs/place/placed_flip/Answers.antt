use Rattle.std.specs.Cmp.Derive.{both_true}
use Rattle.job_trace.proofs.place.placed_flip.Goals as goal

pub unreachable-requires : goal.unreachable-requires
unreachable-requires c = c.in_default.ensures.named (both_true c.requires.first c.requires.second)
