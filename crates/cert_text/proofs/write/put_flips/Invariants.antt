use Rattle.std.proofs.Common.{◌≡◌, ◌++◌, length, take, codes}
use Rattle.std.specs.List.{flat_map}
use Rattle.cert_text.specs.Writing.{flip_line_text, number_line}
use Rattle.cert_text.proofs.write.put_flips.Given as goal

abbrev pub invariant-loop-flip : goal.invariant-loop-flip
invariant-loop-flip l = l.out.items ≡ l.fn.out.items ++ (number_line (codes "flips") (length l.flips) ++ flat_map flip_line_text (take l.flip-index l.flips))
