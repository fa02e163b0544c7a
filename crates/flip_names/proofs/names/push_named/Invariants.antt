use Rattle.std.proofs.Common.{◌≡◌, ◌++◌, take}
use Rattle.std.specs.List.{AllByRecursion}
use Rattle.flip_rules.specs.Flips.{OfFaces}
use Rattle.flip_names.specs.Names.{named_flips}
use Rattle.flip_names.proofs.names.push_named.Given as goal

abbrev pub invariant-loop-flip : goal.invariant-loop-flip
invariant-loop-flip l = record {
  named : l.all.items ≡ l.fn.all.items ++ named_flips l.names (take l.flip-index l.flips);
  faces : AllByRecursion OfFaces (take l.flip-index l.flips);
}
