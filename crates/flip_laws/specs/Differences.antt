-- What keeps one complex from being led to an image of another.
use Rattle.std.specs.Prelude.{◌≡◌, ◌≢◌, ◌↔◌, ℕ, true, IsTrue, List, Some}
use Rattle.std.specs.List.{AllByRecursion}
use Rattle.complex_core.specs.Maps.{IsMap, takes_all, renamed}
use Rattle.complex_core.specs.Complexes.{ComplexView, IsComplex}
use Rattle.face_counts.specs.Eulers.{euler}
use Rattle.orient_test.specs.Signs.{Orientable}
use Rattle.flip_rules.specs.declared.flip.Flip.{Flip}
use Rattle.flip_rules.specs.Flips.{OfFaces, replay}
use Rattle.flip_laws.specs.declared.difference.Differ.{Differ}
use Rattle.flip_laws.specs.declared.difference.Differ.TheVariants as differ

-- what flips and another naming of the labels keep
pub record Alike (k l : ComplexView) : Type 0 where
  pub dim : k.dim ≡ l.dim
  pub euler : euler k.facets ≡ euler l.facets
  pub orientable : Orientable k.facets ↔ Orientable l.facets

-- the first of these three facts in which the complexes differ
abbrev pub IsDifference : ComplexView → ComplexView → Differ → Type 0
IsDifference k l (differ.Dimension m n) = (m ≡ k.dim) × (n ≡ l.dim) × (m ≢ n)
IsDifference k l (differ.Euler m n) = (k.dim ≡ l.dim) × (m ≡ euler k.facets) × (n ≡ euler l.facets) × (m ≢ n)
IsDifference k l (differ.Orientable s t) = (k.dim ≡ l.dim) × (euler k.facets ≡ euler l.facets) × (IsTrue s ↔ Orientable k.facets) × (IsTrue t ↔ Orientable l.facets) × (s ≢ t)

-- flips, each legal in its turn, lead from the first complex to the second under another naming
pub record LeadsToImage (k l : ComplexView) : Type 0 where
  pub flips : List Flip
  pub faces : AllByRecursion OfFaces flips
  pub naming : List (ℕ × ℕ)
  pub is_map : IsMap naming
  pub all : takes_all naming l.facets ≡ true
  pub replays : replay k flips ≡ Some (renamed l naming)

abbrev pub ImageIsAlike : Type 0
ImageIsAlike = (k l : ComplexView) → IsComplex k → IsComplex l → LeadsToImage k l → Alike k l
