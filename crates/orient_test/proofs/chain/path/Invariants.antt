use Rattle.std.proofs.Common.{◌<◌, length}
use Rattle.orient_test.proofs.Chains.{Climbs}
use Rattle.orient_test.proofs.chain.path.Given as goal

abbrev pub invariant-loop-position : goal.invariant-loop-position
invariant-loop-position l = record {
  inside : l.position < length l.reached;
  climbs : Climbs l.reached l.path.items l.fn.position l.position;
}

abbrev pub decreases-loop-position : goal.decreases-loop-position
decreases-loop-position l = l.position
