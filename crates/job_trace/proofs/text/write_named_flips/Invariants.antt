use Rattle.std.proofs.Common.{◌≡◌, ◌++◌, take, string_bytes}
use Rattle.std.specs.List.{flat_map}
use Rattle.job_answer.specs.Lines.{flip_line}
use Rattle.flip_names.specs.Names.{named_flip}
use Rattle.job_trace.proofs.text.write_named_flips.Given as goal

abbrev pub invariant-loop-flip : goal.invariant-loop-flip
invariant-loop-flip l = string_bytes l.text ≡ string_bytes l.fn.text ++ flat_map (λ f. flip_line (named_flip l.names f)) (take l.flip-index l.flips)
