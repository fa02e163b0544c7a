-- Stars of which sets are taken out and into which others are put.
use Rattle.std.specs.Prelude.{◌≡◌, ℕ, ◌+◌, ◌<◌, ◌≤◌, true, if◌then◌else◌, List, ◌++◌, length, map, get_or}
use Rattle.std.specs.List.{AllByRecursion}
use Rattle.std.specs.List.Sorted.{IsStrictlySortedBy}
use Rattle.std.specs.Ordering.{nat_cmp}
use Rattle.complex_core.specs.Labels.{IsRising, has, holds, face_cmp}
use Rattle.complex_core.specs.Rising.{rising}
use Rattle.complex_core.specs.Complexes.{IsFacet, staying}
use Rattle.star_laws.specs.Stars.{star}
use Rattle.stars.specs.StarViews.{VertexStar, KeptStar, vertices}

-- the rows without some sets, and with those of others that contain the vertex
abbrev pub star_changed : List (List ℕ) → List (List ℕ) → VertexStar → VertexStar
star_changed out more s = record s { rows = rising face_cmp (staying s.rows out ++ star more s.vertex) }

-- the same of the stars of some labels
abbrev pub stars_changed : List VertexStar → List ℕ → List (List ℕ) → List (List ℕ) → List VertexStar
stars_changed near labels out more = map (λ s. if has labels s.vertex then star_changed out more s else s) near

-- the stars of these labels have room for so many facets more
abbrev pub HasSpare : List KeptStar → List ℕ → ℕ → Type 0
HasSpare near labels n = (i : ℕ) (other : KeptStar) → i < length near → has labels (get_or near i other).star.vertex ≡ true
    → length (get_or near i other).star.rows + n ≤ (get_or near i other).room

-- the stars of these labels have room for what they become
abbrev pub HasRoom : List KeptStar → List ℕ → List (List ℕ) → List (List ℕ) → Type 0
HasRoom near labels out more = (i : ℕ) (other : KeptStar) → i < length near → has labels (get_or near i other).star.vertex ≡ true
    → length (star_changed out more (get_or near i other).star).rows ≤ (get_or near i other).room

-- these sets have no other labels
abbrev pub AreWithin : List ℕ → List (List ℕ) → Type 0
AreWithin labels sets = AllByRecursion (λ f. holds labels f ≡ true) sets

-- what is taken out and put in has no labels but these, which rise
pub record IsWithin (labels : List ℕ) (out more : List (List ℕ)) : Type 0 where
  pub rising : IsStrictlySortedBy nat_cmp labels
  pub gone : AreWithin labels out
  pub come : AreWithin labels more

-- the stars of these labels are held, and the sets that are put in are facets of their dimension
pub record CanChange (near : List VertexStar) (labels : List ℕ) (more : List (List ℕ)) : Type 0 where
  pub rising : IsRising (vertices near)
  pub labels_rise : IsStrictlySortedBy nat_cmp labels
  pub held : holds (vertices near) labels ≡ true
  pub few : length more ≤ 8
  pub pure : AllByRecursion (λ d. AllByRecursion (IsFacet d) more) (map (λ (s : VertexStar). s.dim) near)
