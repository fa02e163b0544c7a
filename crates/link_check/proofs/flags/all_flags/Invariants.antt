use Rattle.std.proofs.Common.{◌≡◌, take}
use Rattle.std.specs.List.{flat_map}
use Rattle.link_check.specs.Flags.{flags_of}
use Rattle.link_check.proofs.flags.all_flags.Given as goal

abbrev pub invariant-loop-facet : goal.invariant-loop-facet
invariant-loop-facet l = l.all.items ≡ flat_map (flags_of l.size) (take l.facet-index l.facet-items)
