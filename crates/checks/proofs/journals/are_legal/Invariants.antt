use Rattle.std.proofs.Common.{◌≡◌, Some, take}
use Rattle.flip_rules.specs.Flips.{replay}
use Rattle.checks.proofs.journals.are_legal.Given as goal

abbrev pub invariant-loop-flip : goal.invariant-loop-flip
invariant-loop-flip l = replay l.fn.complex (take l.flip-index l.flips) ≡ Some l.complex
