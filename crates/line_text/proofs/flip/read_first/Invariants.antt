use Rattle.std.proofs.Common.{length, ◌-◌, ◌≡◌, ◌≤◌, []}
use Rattle.facet_text.specs.Lines.{items}
use Rattle.line_text.specs.Flips.{first_from}
use Rattle.line_text.proofs.flip.read_first.Given as goal

abbrev pub invariant-words : goal.invariant-words
invariant-words l = record {
  within : l.offset ≤ length l.bytes;
  forth : l.from ≤ l.offset;
  few : length l.side ≤ 7;
  same : first_from l.labels [] (items l.bytes l.from) ≡ first_from l.labels l.side (items l.bytes l.offset);
}

abbrev pub decreases-words : goal.decreases-words
decreases-words l = length l.bytes - l.offset
