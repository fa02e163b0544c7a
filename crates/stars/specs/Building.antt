-- From the facets of a complex to stars, and back.
use Rattle.std.specs.Prelude.{◌≡◌, ℕ, zero, suc, ◌+◌, ◌<◌, ◌≤◌, Bool, true, false, nat_eq, if◌then◌else◌, List, [], ◌∷◌, ◌++◌, length, map, filter, get_or}
use Rattle.complex_core.specs.Labels.{has}
use Rattle.star_laws.specs.Stars.{star}
use Rattle.stars.specs.StarViews.{VertexStar, IsStar}

-- the stars in these facets of so many places after n
abbrev pub stars_of : ℕ → List (List ℕ) → ℕ → ℕ → List VertexStar
stars_of d facets n zero = []
stars_of d facets n (suc count) = record { vertex = n + 1; dim = d; rows = star facets (n + 1) } ∷ stars_of d facets (n + 1) count

-- one more row behind the others
abbrev pub with_row : List ℕ → VertexStar → VertexStar
with_row f s = record s { rows = s.rows ++ f ∷ [] }

-- a row for the stars of some labels
abbrev pub with_rows : List ℕ → List ℕ → List VertexStar → List VertexStar
with_rows labels f stars = map (λ s. if has labels s.vertex then with_row f s else s) stars

-- the stars are numbered from 1, and the facet can stand behind the rows of those of its labels
pub record CanAdd (stars : List VertexStar) (f : List ℕ) : Type 0 where
  pub numbered : (i : ℕ) (other : VertexStar) → i < length stars → (get_or stars i other).vertex ≡ i + 1
  pub within : (x : ℕ) → has f x ≡ true → x ≤ length stars
  pub fits : (i : ℕ) (other : VertexStar) → i < length stars → has f (i + 1) ≡ true → IsStar (with_row f (get_or stars i other))

-- whether this is the first label
abbrev pub begins : List ℕ → ℕ → Bool
begins [] v = false
begins (x ∷ xs) v = nat_eq x v

-- the rows that begin with the vertex
abbrev pub first_rows : VertexStar → List (List ℕ)
first_rows s = filter (λ f. begins f s.vertex) s.rows
