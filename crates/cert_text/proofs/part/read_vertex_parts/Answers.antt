use Rattle.std.proofs.Common.{arith, ◌≡◌, ◌++◌, ◌∷◌, [], map}
use Rattle.std.proofs.lemmas.Result.{err_from_is_err_and}
use Rattle.std.proofs.lemmas.List.{map_push}
use Rattle.facet_text.specs.Lines.{items}
use Rattle.cert_text.specs.Statements.{of_vertex}
use Rattle.cert_text.specs.Grammar.{vertex_part}
use Rattle.cert_text.proofs.Parts.{one_more, stops}
use Rattle.cert_text.proofs.part.read_vertex_parts.Goals as goal

pub returns-in_err-vertex-clause-read : goal.returns-in_err-vertex-clause-read
returns-in_err-vertex-clause-read c =
    let p = err_from_is_err_and c.from_residual.result c.from_residual.ensures.1 in
    rw (p.1, p.2) (stops c.in_err-vertex.field-0.0 vertex_part c.args.count c.vertices.counter (map of_vertex c.vertices.vertices.items) (items c.args.bytes.now c.vertices.offset) _ c.vertices-test.true (c.in_err-vertex.ensures.read _) c.vertices.invariant.same)

pub vertices-preserved : goal.vertices-preserved
vertices-preserved c =
    let so_far = c.vertices.invariant in
    let vs = c.vertices.vertices.items in
    let v = c.in_ok-vertex.vertex in
    let e : map of_vertex c.push.new.self.items ≡ map of_vertex vs ++ of_vertex v ∷ [] = rw c.in_ok-push.ensures.items (map_push of_vertex vs v) in
    record {
      within = omega (arith, c.in_ok-vertex.ensures.offset);
      forth = omega (arith, c.in_ok-vertex.ensures.offset, so_far.forth);
      same = rw e (one_more vertex_part c.args.count c.vertices.counter (map of_vertex vs) (items c.args.bytes.now c.vertices.offset) (of_vertex v) (items c.args.bytes.now c.in_ok-vertex.after) _ c.vertices-test.true (c.in_ok-vertex.ensures.read _) so_far.same);
    }
