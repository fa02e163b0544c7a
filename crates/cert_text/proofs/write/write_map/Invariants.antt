use Rattle.std.proofs.Common.{◌≡◌, ◌++◌, length, take, codes}
use Rattle.std.specs.List.{flat_map}
use Rattle.cert_text.specs.Writing.{number_line, pair_text}
use Rattle.cert_text.proofs.write.write_map.Given as goal

abbrev pub invariant-loop-pair : goal.invariant-loop-pair
invariant-loop-pair l = l.out.items ≡ l.fn.out.items ++ (number_line (codes "map") (length l.pairs) ++ flat_map pair_text (take l.pair-index l.pairs))
