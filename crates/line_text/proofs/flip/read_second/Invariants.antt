use Rattle.std.proofs.Common.{length, ◌-◌, ◌≡◌, ◌≤◌, [], List, ℕ}
use Rattle.facet_text.specs.Lines.{items}
use Rattle.line_text.specs.Flips.{second_from}
use Rattle.line_text.proofs.flip.read_second.Given as goal

abbrev pub invariant-words : goal.invariant-words
invariant-words l = record {
  within : l.offset ≤ length l.bytes;
  forth : l.from ≤ l.offset;
  few : length l.side ≤ 7;
  same : (first : List ℕ) → second_from l.labels first [] (items l.bytes l.from) ≡ second_from l.labels first l.side (items l.bytes l.offset);
}

abbrev pub decreases-words : goal.decreases-words
decreases-words l = length l.bytes - l.offset
