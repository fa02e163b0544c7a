-- The faces of a star that have its vertex, and the flips that take them out.
use Rattle.std.specs.Prelude.{◌≡◌, ℕ, ◌≤◌, ◌<◌, true, not, List, length, filter, map}
use Rattle.std.specs.List.{filter_map, AllByRecursion}
use Rattle.complex_core.specs.Labels.{IsFace, has}
use Rattle.flip_rules.specs.declared.flip.Flip.{Flip}
use Rattle.stars.specs.Candidates.{flip_at}

-- a face of at most seven labels that has the vertex
pub record IsRow (p : ℕ) (row : List ℕ) : Type 0 where
  pub face : IsFace row
  pub few : length row ≤ 7
  pub held : has row p ≡ true

abbrev pub AreRows : ℕ → List (List ℕ) → Type 0
AreRows p rows = (0 < p) × AllByRecursion (IsRow p) rows

-- these flips, one for each such face among some
abbrev pub flips_at : ℕ → List (List ℕ) → List (List ℕ) → List Flip
flips_at d rows faces = filter_map (flip_at d rows) faces

-- and the faces that these take out
abbrev pub faces_out : ℕ → List (List ℕ) → List (List ℕ) → List (List ℕ)
faces_out d rows faces = map (λ f. f.a) (flips_at d rows faces)

-- the facets that don't have a label
abbrev pub rows_apart : List (List ℕ) → ℕ → List (List ℕ)
rows_apart rows x = filter (λ f. not (has f x)) rows
