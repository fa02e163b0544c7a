use Rattle.std.proofs.Common.{◌≡◌, ◌++◌, take, string_bytes}
use Rattle.std.specs.List.{flat_map}
use Rattle.line_text.specs.Writing.{set_off}
use Rattle.job_info.proofs.describe.write_counts.Given as goal

abbrev pub invariant-loop-count : goal.invariant-loop-count
invariant-loop-count l = string_bytes l.text ≡ string_bytes l.fn.text ++ flat_map set_off (take l.count-index l.counts)
