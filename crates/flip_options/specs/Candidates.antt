-- The table from A to B that holds the candidates, and what it knows of a complex.
use Rattle.std.specs.Prelude.{◌≡◌, ℕ, ◌+◌, ◌*◌, ◌<◌, ◌≤◌, ◌⊎◌, Bool, true, false, nat_eq, List, ◌∷◌, ◌++◌, length, map, Option, Some, None}
use Rattle.std.specs.List.{list_all, slice_get}
use Rattle.std.specs.List.Sorted.{IsStrictlySortedBy}
use Rattle.std.specs.Ordering.{nat_cmp, ordering_then}
use Rattle.std.specs.BTreeMap.{BTreeMap, get}
use Rattle.std.specs.declared.cmp.Ordering.{Ordering}
use Rattle.complex_core.specs.Labels.{IsFace, has, holds, union, without, face_cmp}
use Rattle.complex_core.specs.Complexes.{ComplexView, over, is_facet, is_held}
use Rattle.complex_core.specs.Subsets.{IsSubset}
use Rattle.flip_rules.specs.declared.flip.Flip.{Flip}
use Rattle.stars.specs.StarViews.{StarList, IsStarListOf}
use Rattle.descent_laws.specs.Descents.{IsReducing}

-- ---- the table

-- from the number of labels of A, and A, to B
abbrev pub Candidates : Type 0
Candidates = BTreeMap (ℕ × List ℕ) (List ℕ)

-- fewer labels first, so that the greatest index is first
abbrev pub key_cmp : ℕ × List ℕ → ℕ × List ℕ → Ordering
key_cmp p q = ordering_then (nat_cmp p.0 q.0) (face_cmp p.1 q.1)

abbrev pub key_of : List ℕ → ℕ × List ℕ
key_of a = (length a, a)

abbrev pub flip_from : List ℕ → List ℕ → Flip
flip_from a b = record { a = a; b = b }

-- the flips of the table, in its order
abbrev pub flips_of : Candidates → List Flip
flips_of m = map (λ e. flip_from e.0.1 e.1) m.entries

-- each number of labels is that of its face
abbrev pub is_sized : Candidates → Bool
is_sized m = list_all (λ e. nat_eq e.0.0 (length e.0.1)) m.entries

-- ---- what it knows of a complex

-- B makes a legal flip of an index above d/2 with A, or there is none with A
abbrev pub Decides : ComplexView → List ℕ → Option (List ℕ) → Type 0
Decides k a (Some b) = IsReducing k (flip_from a b)
Decides k a None = (b : List ℕ) → IsReducing k (flip_from a b) → ⊥

-- the table has the legal flip of an index above d/2 with this A, if there is one, and else none
pub record IsRight (k : ComplexView) (m : Candidates) (a : List ℕ) : Type 0 where
  pub sound : (b : List ℕ) → get key_cmp m (key_of a) ≡ Some b → IsReducing k (flip_from a b)
  pub complete : (b : List ℕ) → IsReducing k (flip_from a b) → get key_cmp m (key_of a) ≡ Some b

-- what a look at some faces again does: at each face the table stays as it was or is right, and at those done it is right
pub record Refreshed (stars : StarList) (was now : Candidates) (Done : ComplexView → List ℕ → Type 0) : Type 0 where
  pub sized : is_sized was ≡ true → is_sized now ≡ true
  pub each : (k : ComplexView) → IsStarListOf k stars → (a : List ℕ) → (get key_cmp now (key_of a) ≡ get key_cmp was (key_of a)) ⊎ IsRight k now a
  pub done : (k : ComplexView) → IsStarListOf k stars → (a : List ℕ) → Done k a → IsRight k now a

-- what a first look at some faces does: at each face the table stays as it was or is right, and it is right at those done of which it knew nothing
pub record FirstLook (stars : StarList) (was now : Candidates) (Done : ComplexView → List ℕ → Type 0) : Type 0 where
  pub sized : is_sized was ≡ true → is_sized now ≡ true
  pub each : (k : ComplexView) → IsStarListOf k stars → (a : List ℕ) → (get key_cmp now (key_of a) ≡ get key_cmp was (key_of a)) ⊎ IsRight k now a
  pub done : (k : ComplexView) → IsStarListOf k stars → (a : List ℕ) → Done k a → get key_cmp was (key_of a) ≡ None → IsRight k now a

-- ---- which faces are looked at

-- the set has the labels of another, and those of each row over it
pub record HoldsOver (rows : List (List ℕ)) (set w : List ℕ) : Type 0 where
  pub own : holds w set ≡ true
  pub each : (f : List ℕ) → is_facet (over rows set) f ≡ true → holds w f ≡ true

-- and no others
pub record IsJoin (rows : List (List ℕ)) (set all : List ℕ) : Type 0 where
  pub face : IsFace all
  pub has : HoldsOver rows set all
  pub least : (w : List ℕ) → HoldsOver rows set w → holds w all ≡ true

-- no set of so many labels has them
abbrev pub TooMany : List (List ℕ) → List ℕ → ℕ → Type 0
TooMany rows set most = (w : List ℕ) → IsStrictlySortedBy nat_cmp w → length w ≤ most → HoldsOver rows set w → ⊥

-- a part of a set that may be the A of a flip of an index above d/2
pub record IsPart (k : ComplexView) (set a : List ℕ) : Type 0 where
  pub face : IsFace a
  pub part : holds set a ≡ true
  pub some : 0 < length a
  pub few : 2 * length a < k.dim + 2

-- the same of fewer than so many labels
pub record IsPartBelow (most : ℕ) (set a : List ℕ) : Type 0 where
  pub size : ℕ
  pub low : 0 < size
  pub high : size < most
  pub is : IsSubset set size a

-- a face of the complex with this least label, which may be the A of a flip of an index above d/2
pub record IsPartAt (k : ComplexView) (label : ℕ) (a : List ℕ) : Type 0 where
  pub first : slice_get a 0 ≡ Some label
  pub face : IsFace a
  pub held : is_held k.facets a ≡ true
  pub few : 2 * length a < k.dim + 2

-- a face of the complex that a face becomes with some of so many labels more, which are above its last one
pub record IsGrown (k : ComplexView) (face : List ℕ) (last others : ℕ) (a : List ℕ) : Type 0 where
  pub rest : List ℕ
  pub is : a ≡ face ++ rest
  pub rises : IsStrictlySortedBy nat_cmp (last ∷ rest)
  pub few : length rest ≤ others
  pub held : is_held k.facets a ≡ true

-- the facets A ∪ (B less b) are all there
pub record IsLinked (k : ComplexView) (a b : List ℕ) : Type 0 where
  pub rising : IsStrictlySortedBy nat_cmp a
  pub apart : (x : ℕ) → has a x ≡ true → has b x ≡ false
  pub there : (x : ℕ) → has b x ≡ true → is_facet k.facets (union a (without b x)) ≡ true

-- linked with a side of a flip, which has the labels that are left for the B of a flip of an index above d/2
pub record MeetsSide (k : ComplexView) (side face : List ℕ) : Type 0 where
  pub linked : IsLinked k face side
  pub few : 2 * length face < k.dim + 2
  pub sizes : length face + length side ≡ k.dim + 2
