use Rattle.std.proofs.Common.{◌≡◌, ◌++◌, ◌∷◌, map, take}
use Rattle.std.specs.List.{join_with_byte}
use Rattle.facet_text.specs.Writing.{facet_text}
use Rattle.facet_text.proofs.write.put_facets.Given as goal

abbrev pub invariant-loop-i : goal.invariant-loop-i
invariant-loop-i l = l.out.items ≡ l.fn.out.items ++ 91 ∷ join_with_byte 44 (map facet_text (take l.i l.facets))
