use Rattle.std.proofs.Common.{◌≡◌, Some, take}
use Rattle.flip_rules.specs.Flips.{replay}
use Rattle.cert_replay.proofs.outcome.replay_flips.Given as goal

abbrev pub invariant-loop-position : goal.invariant-loop-position
invariant-loop-position l = replay l.complex (take l.position l.flips) ≡ Some l.set
