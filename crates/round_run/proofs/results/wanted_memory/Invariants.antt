use Rattle.std.proofs.Common.{take}
use Rattle.round_run.specs.Crews.{NoneWanted}
use Rattle.round_run.proofs.results.wanted_memory.Given as goal

abbrev pub invariant-loop-answer : goal.invariant-loop-answer
invariant-loop-answer l = NoneWanted (take l.answer-index l.answers)
