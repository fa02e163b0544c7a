-- Lists of candidates that a star keeps, and what a change of its rows makes of them.
use Rattle.std.specs.Prelude.{◌≡◌, false, ℕ, ◌+◌, ◌-◌, ◌&&◌, Bool, not, nat_eq, List, ◌++◌, length, filter}
use Rattle.std.specs.List.{AllByRecursion}
use Rattle.complex_core.specs.Labels.{has, holds, face_cmp}
use Rattle.complex_core.specs.Rising.{rising}
use Rattle.complex_core.specs.Complexes.{over}
use Rattle.complex_core.specs.Subsets.{subsets_of}
use Rattle.stars.specs.StarViews.{VertexStar}
use Rattle.stars.specs.Candidates.{IsListOf, is_candidate}

-- a list, and the index whose candidates it has
pub record CandidateList : Type 0 where
  pub index : ℕ
  pub faces : List (List ℕ)

-- each is the list of its index
abbrev pub AreLists : VertexStar → List CandidateList → Type 0
AreLists s lists = AllByRecursion (λ l. IsListOf s l.index l.faces) lists

-- the candidates of an index among the subsets of some labels
unfoldable pub candidates_within : VertexStar → ℕ → List ℕ → List (List ℕ)
candidates_within s i labels = filter (is_candidate s.rows (i + 1)) (filter (λ f. has f s.vertex) (subsets_of (s.dim + 1 - i) labels))

-- the sets that have a label beside some labels
abbrev pub not_within : List ℕ → List (List ℕ) → List (List ℕ)
not_within labels sets = filter (λ f. not (holds labels f)) sets

-- a list whose sets within some labels are exchanged for those that are candidates now
abbrev pub list_after : List (List ℕ) → VertexStar → ℕ → List ℕ → List (List ℕ)
list_after list now i labels = rising face_cmp (not_within labels list ++ candidates_within now i labels)

-- a star that changed: its rows over each set that has a label beside some labels are the same
pub record ChangedWithin (labels : List ℕ) (old now : VertexStar) : Type 0 where
  pub vertex : now.vertex ≡ old.vertex
  pub dim : now.dim ≡ old.dim
  pub rest : (set : List ℕ) → holds labels set ≡ false → over now.rows set ≡ over old.rows set

-- whether a set is a candidate of an index
abbrev pub belongs : VertexStar → ℕ → List ℕ → Bool
belongs s i f = nat_eq (length f) (s.dim + 1 - i) && (has f s.vertex && is_candidate s.rows (i + 1) f)
