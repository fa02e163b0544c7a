use Rattle.std.proofs.Common.{length, ◌-◌, ◌≡◌, ◌≤◌, ◌+◌, drop, not}
use Rattle.std.specs.List.{prefix_len}
use Rattle.facet_text.specs.Lines.{is_feed}
use Rattle.line_text.proofs.word.line_end.Given as goal

abbrev pub invariant-loop-end : goal.invariant-loop-end
invariant-loop-end l = record {
  within : l.end ≤ length l.bytes;
  forth : l.from ≤ l.end;
  same : l.end + prefix_len (λ b. not (is_feed b)) (drop l.end l.bytes) ≡ l.from + prefix_len (λ b. not (is_feed b)) (drop l.from l.bytes);
}

abbrev pub decreases-loop-end : goal.decreases-loop-end
decreases-loop-end l = length l.bytes - l.end
