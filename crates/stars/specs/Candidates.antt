-- The faces of a star that have its vertex, and which of them a flip can take out.
use Rattle.std.specs.Prelude.{◌≡◌, ℕ, ◌+◌, ◌-◌, ◌≤◌, ◌&&◌, Bool, nat_eq, if◌then◌else◌, List, [], length, filter, Option, Some, None}
use Rattle.std.specs.List.{flat_map}
use Rattle.std.specs.Result.{is_ok}
use Rattle.complex_core.specs.Labels.{has, face_cmp}
use Rattle.complex_core.specs.Rising.{rising}
use Rattle.complex_core.specs.Complexes.{over}
use Rattle.complex_core.specs.Maps.{used}
use Rattle.complex_core.specs.Links.{less}
use Rattle.complex_core.specs.Subsets.{subsets_of}
use Rattle.flip_rules.specs.Flips.{link_is, broken_rule_near}
use Rattle.flip_rules.specs.declared.flip.Flip.{Flip}
use Rattle.stars.specs.StarViews.{VertexStar}

abbrev pub flip_of : List ℕ → List ℕ → Flip
flip_of a b = record { a = a; b = b }

-- the labels that the facets over A have beside A
abbrev pub opposite : List (List ℕ) → List ℕ → List ℕ
opposite rows a = less (used (over rows a)) a

-- these labels are B of so many labels, and the facets over A are exactly the A ∪ (B less b)
abbrev pub is_candidate : List (List ℕ) → ℕ → List ℕ → Bool
is_candidate rows n a = nat_eq (length (opposite rows a)) n && link_is rows a (opposite rows a)

-- the flip that takes a face out, where the facets over it are those of a flip
abbrev pub flip_at : ℕ → List (List ℕ) → List ℕ → Option Flip
flip_at d rows a = if is_ok (broken_rule_near d rows [] a (opposite rows a)) then Some (flip_of a (opposite rows a)) else None

-- the faces of n labels that have the vertex, rising
unfoldable pub faces_at : List (List ℕ) → ℕ → ℕ → List (List ℕ)
faces_at rows p n = rising face_cmp (flat_map (λ row. filter (λ s. has s p) (subsets_of n row)) rows)

-- the candidates of an index from 1, rising: those of d + 1 - i labels, whose B has i + 1
unfoldable pub candidate_faces : VertexStar → ℕ → List (List ℕ)
candidate_faces s i = filter (is_candidate s.rows (i + 1)) (faces_at s.rows s.vertex (s.dim + 1 - i))

-- this is the list of an index
pub record IsListOf (s : VertexStar) (i : ℕ) (list : List (List ℕ)) : Type 0 where
  pub low : 1 ≤ i
  pub high : i ≤ s.dim
  pub is : list ≡ candidate_faces s i
