use Rattle.std.proofs.Common.{length, ◌-◌, ◌≡◌, ◌≤◌, []}
use Rattle.facet_text.specs.Lines.{items}
use Rattle.cert_text.specs.Readings.{so_many}
use Rattle.cert_text.specs.Lines.{flip_line}
use Rattle.cert_text.proofs.part.read_flip_lines.Given as goal

abbrev pub invariant-lines : goal.invariant-lines
invariant-lines l = record {
  within : l.offset ≤ length l.bytes;
  forth : l.from ≤ l.offset;
  same : so_many flip_line (l.count - l.counter) l.flips.items (items l.bytes l.offset) ≡ so_many flip_line l.count [] (items l.bytes l.from);
}
