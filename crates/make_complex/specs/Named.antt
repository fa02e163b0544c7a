-- The named complexes.
use Rattle.std.specs.Prelude.{Bool, true, false, ℕ, zero, suc, ◌+◌, ◌-◌, ◌*◌, ◌%◌, List, [], ◌∷◌, ◌++◌, map}
use Rattle.std.specs.List.{flat_map}
use Rattle.std.specs.Ordering.{nat_cmp}
use lib.IntN.{ℤ, pos, ◌+ℤ◌}
use Rattle.face_counts.specs.Eulers.{power}
use Rattle.complex_core.specs.Labels.{with, face_cmp}
use Rattle.complex_core.specs.Rising.{rising}
use Rattle.complex_core.specs.Maps.{next_after}
use Rattle.complex_core.specs.Subsets.{subsets_of}
use Rattle.complex_core.specs.Complexes.{ComplexView}
use Rattle.make_complex.specs.declared.kind.Kind.{Kind}
use Rattle.make_complex.specs.declared.kind.Kind.TheVariants.{Simplex, Cross, Torus, Plane}

-- the labels from 1 to n
abbrev pub labels_to : ℕ → List ℕ
labels_to n = next_after 0 n

-- all sets of d + 1 labels out of 1 to d + 2
abbrev pub simplex_facets : ℕ → List (List ℕ)
simplex_facets d = subsets_of (d + 1) (labels_to (d + 2))

-- all sets of one label of each of the pairs (1, sum - 1) to (n, sum - n)
abbrev pub one_of_each : ℕ → ℕ → List (List ℕ)
one_of_each sum zero = [] ∷ []
one_of_each sum (suc n) = map (λ f. with f (n + 1)) (one_of_each sum n) ++ map (λ f. with f (sum - (n + 1))) (one_of_each sum n)

-- the labels are 1 to 2d + 2, the antipode of v is 2d + 3 - v, and a facet has one label of each antipodal pair
abbrev pub cross_facets : ℕ → List (List ℕ)
cross_facets d = rising face_cmp (one_of_each (2 * d + 3) (d + 1))

-- a number from 1, counted modulo 7, with 7 for 0
abbrev pub seventh : ℕ → ℕ
seventh n = (n + 6) % 7 + 1

-- {i, i + 1, i + 3} and {i, i + 2, i + 3}, modulo 7
abbrev pub triangles_at : ℕ → List (List ℕ)
triangles_at i = rising nat_cmp (i ∷ seventh (i + 1) ∷ seventh (i + 3) ∷ []) ∷ rising nat_cmp (i ∷ seventh (i + 2) ∷ seventh (i + 3) ∷ []) ∷ []

abbrev pub torus_facets : List (List ℕ)
torus_facets = rising face_cmp (flat_map triangles_at (labels_to 7))

abbrev pub plane_facets : List (List ℕ)
plane_facets =
    (1 ∷ 2 ∷ 3 ∷ []) ∷ (1 ∷ 2 ∷ 6 ∷ []) ∷ (1 ∷ 3 ∷ 4 ∷ []) ∷ (1 ∷ 4 ∷ 5 ∷ []) ∷ (1 ∷ 5 ∷ 6 ∷ []) ∷
    (2 ∷ 3 ∷ 5 ∷ []) ∷ (2 ∷ 4 ∷ 5 ∷ []) ∷ (2 ∷ 4 ∷ 6 ∷ []) ∷ (3 ∷ 4 ∷ 6 ∷ []) ∷ (3 ∷ 5 ∷ 6 ∷ []) ∷ []

abbrev pub named_facets : Kind → ℕ → List (List ℕ)
named_facets Simplex d = simplex_facets d
named_facets Cross d = cross_facets d
named_facets Torus d = torus_facets
named_facets Plane d = plane_facets

-- the named complex of a kind and a dimension
abbrev pub named_complex : Kind → ℕ → ComplexView
named_complex kind d = record { dim = d; facets = named_facets kind d }

-- the Euler characteristics: 1 + (-1)^d of a sphere, 0 of the torus, 1 of the projective plane
abbrev pub named_euler : Kind → ℕ → ℤ
named_euler Simplex d = pos 1 +ℤ power d
named_euler Cross d = pos 1 +ℤ power d
named_euler Torus d = pos 0
named_euler Plane d = pos 1

-- all but the projective plane are orientable
abbrev pub is_orientable : Kind → Bool
is_orientable Simplex = true
is_orientable Cross = true
is_orientable Torus = true
is_orientable Plane = false
