use Rattle.std.proofs.Common.{◌≡◌, ◌++◌, length, take, codes, map}
use Rattle.std.specs.List.{flat_map}
use Rattle.cert_text.specs.Statements.{of_vertex}
use Rattle.cert_text.specs.Writing.{number_line, vertex_text}
use Rattle.cert_text.proofs.write.put_vertices.Given as goal

abbrev pub invariant-loop-vertex : goal.invariant-loop-vertex
invariant-loop-vertex l = l.out.items ≡ l.fn.out.items ++ (number_line (codes "vertices") (length (map of_vertex l.vertices)) ++ flat_map vertex_text (map of_vertex (take l.vertex-index l.vertices)))
