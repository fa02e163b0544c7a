use Rattle.std.proofs.Common.{◌≡◌, ◌++◌, map, take}
use Rattle.link_check.proofs.flags.add_flags.Given as goal

abbrev pub invariant-loop-face : goal.invariant-loop-face
invariant-loop-face l = l.all.items ≡ l.initial.all.items ++ map (λ s. (s, l.facet)) (take l.face-index l.face-items)
