-- Stars as contracts see them, and of which complex they are.
use Rattle.std.specs.Prelude.{◌≡◌, ℕ, ◌+◌, ◌-◌, ◌<◌, ◌≤◌, true, List, [], ◌∷◌, length, map, get_or}
use Rattle.std.specs.List.{AllByRecursion}
use Rattle.std.specs.List.Sorted.{IsStrictlySortedBy}
use Rattle.complex_core.specs.Labels.{IsRising, has, holds, face_cmp}
use Rattle.complex_core.specs.Complexes.{ComplexView, IsComplex, IsFacet}
use Rattle.complex_core.specs.Maps.{used}
use Rattle.star_laws.specs.Stars.{star}
use Rattle.flip_rules.specs.declared.flip.Flip.{Flip}

-- a star: the facets of one vertex, rising
pub record VertexStar : Type 0 where
  pub vertex : ℕ
  pub dim : ℕ
  pub rows : List (List ℕ)

-- a star, and for how many facets it has memory
pub record KeptStar : Type 0 where
  pub star : VertexStar
  pub room : ℕ

-- a star for each place from 1
pub record StarList : Type 0 where
  pub dim : ℕ
  pub stars : List (List (List ℕ))

-- the rows rise, and each is a facet of this dimension that contains the vertex, which is a label
pub record IsStar (s : VertexStar) : Type 0 where
  pub vertex : 0 < s.vertex
  pub low : s.dim ≤ 6
  pub rising : IsStrictlySortedBy face_cmp s.rows
  pub pure : AllByRecursion (IsFacet s.dim) s.rows
  pub held : AllByRecursion (λ f. has f s.vertex ≡ true) s.rows

-- the star of a place, and how many places there are
abbrev pub star_at : StarList → ℕ → List (List ℕ)
star_at m p = get_or m.stars (p - 1) []

abbrev pub places_in : StarList → ℕ
places_in m = length m.stars

-- the stars of the places after n, one after another
abbrev pub numbered : ℕ → ℕ → List (List (List ℕ)) → List VertexStar
numbered d n [] = []
numbered d n (rows ∷ more) = record { vertex = n + 1; dim = d; rows = rows } ∷ numbered d (n + 1) more

-- all stars, each with its vertex
abbrev pub all_stars : StarList → List VertexStar
all_stars m = numbered m.dim 0 m.stars

-- the stars alone, and their rooms alone
abbrev pub shown : List KeptStar → List VertexStar
shown near = map (λ s. s.star) near

abbrev pub rooms : List KeptStar → List ℕ
rooms near = map (λ s. s.room) near

-- how many facets each star has
abbrev pub counts : List VertexStar → List ℕ
counts stars = map (λ s. length s.rows) stars

-- each number is at most the one at its place
abbrev pub EachAtMost : List ℕ → List ℕ → Type 0
EachAtMost ms ns = (i : ℕ) → get_or ms i 0 ≤ get_or ns i 0

-- the vertices of some stars
abbrev pub vertices : List VertexStar → List ℕ
vertices near = map (λ s. s.vertex) near

-- these are the stars of the places from 1, in this dimension
abbrev pub AreNumbered : ℕ → List VertexStar → Type 0
AreNumbered d stars = stars ≡ numbered d 0 (map (λ s. s.rows) stars)

-- the complex uses no label above n
abbrev pub UsesUpTo : ComplexView → ℕ → Type 0
UsesUpTo k n = AllByRecursion (λ x. x ≤ n) (used k.facets)

-- this is the star of its vertex in the complex
pub record IsStarOf (k : ComplexView) (s : VertexStar) : Type 0 where
  pub dim : s.dim ≡ k.dim
  pub rows : s.rows ≡ star k.facets s.vertex

-- these stars, rising in their vertices, are stars of the complex
pub record AreStarsOf (k : ComplexView) (near : List VertexStar) : Type 0 where
  pub complex : IsComplex k
  pub rising : IsRising (vertices near)
  pub each : AllByRecursion (IsStarOf k) near

-- these are the stars of the complex: every used label is a place, and each place has its star
pub record IsStarListOf (k : ComplexView) (m : StarList) : Type 0 where
  pub complex : IsComplex k
  pub dim : m.dim ≡ k.dim
  pub within : UsesUpTo k (places_in m)
  pub stars : (p : ℕ) → 0 < p → p ≤ places_in m → star_at m p ≡ star k.facets p

-- some star is held of each label of the flip
pub record HasLabels (near : List VertexStar) (f : Flip) : Type 0 where
  pub first : holds (vertices near) f.a ≡ true
  pub second : holds (vertices near) f.b ≡ true

-- each label of the flip is one of the places
pub record OnPlaces (m : StarList) (f : Flip) : Type 0 where
  pub first : AllByRecursion (λ x. x ≤ places_in m) f.a
  pub second : AllByRecursion (λ x. x ≤ places_in m) f.b
