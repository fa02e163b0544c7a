use Rattle.std.proofs.Common.{◌≡◌, [], take, map, true}
use Rattle.std.specs.List.{list_all}
use Rattle.complex_core.specs.Labels.{union}
use Rattle.complex_core.specs.Maps.{takes, at}
use Rattle.flip_journal.proofs.names.Names.face.Given as goal

abbrev pub invariant-loop-label : goal.invariant-loop-label
invariant-loop-label l = record {
  made : l.image ≡ union [] (map (at l.self) (take l.label-index l.label-items));
  taken : list_all (takes l.self) (take l.label-index l.label-items) ≡ true;
}
