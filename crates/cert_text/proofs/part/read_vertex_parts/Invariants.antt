use Rattle.std.proofs.Common.{length, ◌-◌, ◌≡◌, ◌≤◌, [], map}
use Rattle.facet_text.specs.Lines.{items}
use Rattle.cert_text.specs.Statements.{of_vertex}
use Rattle.cert_text.specs.Readings.{so_many}
use Rattle.cert_text.specs.Grammar.{vertex_part}
use Rattle.cert_text.proofs.part.read_vertex_parts.Given as goal

abbrev pub invariant-vertices : goal.invariant-vertices
invariant-vertices l = record {
  within : l.offset ≤ length l.bytes;
  forth : l.from ≤ l.offset;
  same : so_many vertex_part (l.count - l.counter) (map of_vertex l.vertices.items) (items l.bytes l.offset) ≡ so_many vertex_part l.count [] (items l.bytes l.from);
}
