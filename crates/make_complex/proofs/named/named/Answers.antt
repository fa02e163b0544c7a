use Rattle.std.proofs.Common.{◌∙◌, sym, ap}
use Rattle.make_complex.specs.Named.{simplex_facets, cross_facets, named_facets}
use Rattle.make_complex.proofs.Computed.{crossing, simplex_made, cross_made, torus_faces, plane_faces, can_on, size_on, named_on}
use Rattle.make_complex.proofs.named.named.Goals as goal

pub complex_of-requires-clause-can : goal.complex_of-requires-clause-can
complex_of-requires-clause-can c = can_on c.args.dim (simplex_facets c.args.dim) (simplex_facets c.args.dim) _ (simplex_made c.args.dim c.requires.low c.requires.high) (c.deref.ensures.value ∙ c.in_ok-facets-in-Simplex.ensures)

pub complex_of-requires-clause-size : goal.complex_of-requires-clause-size
complex_of-requires-clause-size c = size_on c.args.dim (simplex_facets c.args.dim) (simplex_facets c.args.dim) _ (simplex_made c.args.dim c.requires.low c.requires.high) (c.deref.ensures.value ∙ c.in_ok-facets-in-Simplex.ensures)

pub complex_of-requires-in-Cross-clause-can : goal.complex_of-requires-in-Cross-clause-can
complex_of-requires-in-Cross-clause-can c = can_on c.args.dim (crossing c.args.dim) (cross_facets c.args.dim) _ (cross_made c.args.dim c.requires.low c.requires.high) (c.deref-in-Cross.ensures.value ∙ c.in_ok-facets-in-Cross.ensures)

pub complex_of-requires-in-Cross-clause-size : goal.complex_of-requires-in-Cross-clause-size
complex_of-requires-in-Cross-clause-size c = size_on c.args.dim (crossing c.args.dim) (cross_facets c.args.dim) _ (cross_made c.args.dim c.requires.low c.requires.high) (c.deref-in-Cross.ensures.value ∙ c.in_ok-facets-in-Cross.ensures)

pub triangles-requires : goal.triangles-requires
triangles-requires c = torus_faces

pub triangles-requires-in-Plane : goal.triangles-requires-in-Plane
triangles-requires-in-Plane c = plane_faces

pub returns-in_ok-facets-in-Simplex : goal.returns-in_ok-facets-in-Simplex
returns-in_ok-facets-in-Simplex c = named_on c.args.dim (simplex_facets c.args.dim) (simplex_facets c.args.dim) _ (named_facets c.args.kind c.args.dim) c.complex_of.result (simplex_made c.args.dim c.requires.low c.requires.high) (c.deref.ensures.value ∙ c.in_ok-facets-in-Simplex.ensures) (sym (ap (λ kind. named_facets kind c.args.dim) c.in-Simplex.is)) c.complex_of.ensures
