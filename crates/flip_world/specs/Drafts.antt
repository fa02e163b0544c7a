-- What flips in a row take out of a complex, and what they put in.
use Rattle.std.specs.Prelude.{◌≡◌, ℕ, ◌<◌, List, ◌++◌, length, Some}
use Rattle.std.specs.List.{AllByRecursion}
use Rattle.std.specs.List.Sorted.{IsStrictlySortedBy}
use Rattle.complex_core.specs.Labels.{face_cmp}
use Rattle.complex_core.specs.Rising.{rising}
use Rattle.complex_core.specs.Complexes.{ComplexView, IsComplex, IsFacet, over, staying}
use Rattle.flip_rules.specs.Flips.{replay}
use Rattle.flip_rules.specs.declared.flip.Flip.{Flip}

-- the flips lead from k to m by one exchange of facets
pub record Exchanges (k m : ComplexView) (flips : List Flip) (out more : List (List ℕ)) : Type 0 where
  pub facets : m.facets ≡ rising face_cmp (staying k.facets out ++ more)
  pub dim : m.dim ≡ k.dim
  pub complex : IsComplex m
  pub pure : AllByRecursion (IsFacet k.dim) more
  pub some : 0 < length flips → 0 < length more

-- they do so on each complex on which they replay, and both lists rise
pub record IsDraft (flips : List Flip) (out more : List (List ℕ)) : Type 0 where
  pub out_rises : IsStrictlySortedBy face_cmp out
  pub more_rises : IsStrictlySortedBy face_cmp more
  pub exchanges : (k m : ComplexView) → IsComplex k → replay k flips ≡ Some m → Exchanges k m flips out more

-- wherever a run has all facets of the complex over a set, these facets have all facets over it after the flips
abbrev pub SeenOver : List Flip → List (List ℕ) → List ℕ → List (List ℕ) → Type 0
SeenOver flips run set near = (k m : ComplexView) → IsComplex k → replay k flips ≡ Some m → over run set ≡ over k.facets set → over near set ≡ over m.facets set
