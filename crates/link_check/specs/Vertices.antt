-- The links of the vertices of a complex.
use Rattle.std.specs.Prelude.{◌≡◌, true, ℕ, ◌≤◌, [], ◌∷◌}
use Rattle.complex_core.specs.Labels.{has}
use Rattle.complex_core.specs.Complexes.{ComplexView, IsComplex}
use Rattle.complex_core.specs.Links.{link}
use Rattle.complex_core.specs.Maps.{used}
use Rattle.pseudo_test.specs.Ridges.{Closed}
use Rattle.pseudo_test.specs.Chains.{StronglyConnected}
use Rattle.link_check.specs.BadLinks.{NoneIsBad}

abbrev pub vertex_link : ComplexView → ℕ → ComplexView
vertex_link k v = link k (v ∷ [])

-- in a closed complex the link of each vertex is closed
abbrev pub VertexLinksClosed : Type 0
VertexLinksClosed = (k : ComplexView) (v : ℕ) → IsComplex k → Closed k.facets → Closed (vertex_link k v).facets

-- and strongly connected, from dimension 1 on, where no face is bad
abbrev pub GoodLinksLaw : Type 0
GoodLinksLaw = (k : ComplexView) (v : ℕ) → IsComplex k → 2 ≤ k.dim → Closed k.facets → NoneIsBad k → has (used k.facets) v ≡ true → Closed (vertex_link k v).facets × StronglyConnected (vertex_link k v).facets
