-- What a certificate holds.
use Rattle.std.specs.Prelude.{ℕ, List, map}
use Rattle.std.specs.Global.{Vec}
use Rattle.complex_core.specs.Complexes.{ComplexView}
use Rattle.flip_rules.specs.declared.flip.Flip.{Flip}
use Rattle.cert_text.specs.declared.certificate.Certificate.{Certificate}
use Rattle.cert_text.specs.declared.certificate.Certificate.TheVariants as certificate

-- the flips of a vertex
abbrev pub OfVertex : Type 0
OfVertex = ℕ × List Flip

pub data Statement : Type 0 where
  Sphere : (flips : List Flip) → Statement
  Equal : (target : ComplexView) → (flips : List Flip) → (pairs : List (ℕ × ℕ)) → Statement
  Manifold : (vertices : List OfVertex) → Statement

abbrev pub of_vertex : ℕ × Vec Flip → OfVertex
of_vertex v = (v.0, v.1.items)

abbrev pub statement : Certificate → Statement
statement (certificate.Sphere flips) = Sphere flips.items
statement (certificate.Equal target flips map) = Equal target flips.items map
statement (certificate.Manifold vertices) = Manifold (map of_vertex vertices.items)
