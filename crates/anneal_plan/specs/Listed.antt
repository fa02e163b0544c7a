-- A candidate of a list, and what the rows over it tell.
use Rattle.std.specs.Prelude.{◌≡◌, true, ℕ, ◌+◌, ◌≤◌, List, [], ◌∷◌, length, Option, None}
use Rattle.std.specs.Option.{SomeIff}
use Rattle.complex_core.specs.Labels.{union}
use Rattle.stars.specs.StarViews.{VertexStar}
use Rattle.stars.specs.Candidates.{is_candidate}

-- a face that is a candidate of some index
pub record IsListed (s : VertexStar) (set : List ℕ) : Type 0 where
  pub index : ℕ
  pub low : 1 ≤ index
  pub size : length set + index ≡ s.dim + 1
  pub is : is_candidate s.rows (index + 1) set ≡ true

-- the labels of the first two sets, where there are two, and these labels fit
abbrev pub TellsTwo : List (List ℕ) → Option (List ℕ) → Type 0
TellsTwo [] o = o ≡ None
TellsTwo (r ∷ []) o = o ≡ None
TellsTwo (r ∷ q ∷ rest) o = SomeIff o (length (union r q) ≤ 8) (union r q)
