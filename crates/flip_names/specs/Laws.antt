-- Flips and another naming of the labels commute.
use Rattle.std.specs.Prelude.{◌≡◌, ◌↔◌, true, ℕ, ◌≤◌, List, length, Some}
use Rattle.std.specs.List.{AllByRecursion}
use Rattle.std.specs.Option.{option_map}
use Rattle.complex_core.specs.Maps.{IsMap, pair_cmp, turned, takes_all, renamed}
use Rattle.complex_core.specs.Rising.{rising}
use Rattle.complex_core.specs.Complexes.{ComplexView, IsComplex}
use Rattle.flip_rules.specs.declared.flip.Flip.{Flip}
use Rattle.flip_rules.specs.declared.flip.Illegal.{Illegal}
use Rattle.flip_rules.specs.Flips.{OfFaces, broken_rule, flipped, replay}
use Rattle.flip_rules.specs.Boundaries.{IsBoundary}
use Rattle.flip_rules.specs.Certificates.{SphereCert, IsFirstIllegal}
use Rattle.flip_names.specs.Names.{named_flip, named_flips, takes_flip, takes_flips}

-- a map that takes all labels of a complex
pub record Renames (m : List (ℕ × ℕ)) (k : ComplexView) : Type 0 where
  pub is_map : IsMap m
  pub complex : IsComplex k
  pub taken : takes_all m k.facets ≡ true

-- and all labels of these flips
pub record RenamesAll (m : List (ℕ × ℕ)) (k : ComplexView) (flips : List Flip) : Type 0 where
  pub complex : Renames m k
  pub faces : AllByRecursion OfFaces flips
  pub taken : takes_flips m flips ≡ true

-- ---- one flip

-- the sides of the named flip are faces, as large as those of the flip
pub record KeepsSizes (f g : Flip) : Type 0 where
  pub faces : OfFaces g
  pub first : length g.a ≡ length f.a
  pub second : length g.b ≡ length f.b

abbrev pub SizesAreKept : Type 0
SizesAreKept = (m : List (ℕ × ℕ)) (f : Flip) → IsMap m → OfFaces f → takes_flip m f ≡ true → KeepsSizes f (named_flip m f)

-- the named flip breaks the same rule first, or none, on the renamed complex
abbrev pub BrokenRuleCommutes : Type 0
BrokenRuleCommutes = (m : List (ℕ × ℕ)) (k : ComplexView) (f : Flip) → Renames m k → OfFaces f → takes_flip m f ≡ true →
    broken_rule (renamed k m) (named_flip m f).a (named_flip m f).b ≡ broken_rule k f.a f.b

-- and makes of it the renamed complex after the flip
abbrev pub FlipCommutes : Type 0
FlipCommutes = (m : List (ℕ × ℕ)) (k : ComplexView) (f : Flip) → Renames m k → takes_flip m f ≡ true →
    renamed (flipped k f.a f.b) m ≡ flipped (renamed k m) (named_flip m f).a (named_flip m f).b

-- the map takes all labels of the complex after the flip
abbrev pub FlipStaysTaken : Type 0
FlipStaysTaken = (m : List (ℕ × ℕ)) (k : ComplexView) (f : Flip) → takes_all m k.facets ≡ true → takes_flip m f ≡ true →
    takes_all m (flipped k f.a f.b).facets ≡ true

-- ---- flips one after another

-- the named flips lead from the renamed complex to the renamed end, or to none where the flips lead to none
abbrev pub ReplayCommutes : Type 0
ReplayCommutes = (m : List (ℕ × ℕ)) (k : ComplexView) (flips : List Flip) → RenamesAll m k flips →
    replay (renamed k m) (named_flips m flips) ≡ option_map (λ l. renamed l m) (replay k flips)

-- the map takes all labels of the end, which is a complex
abbrev pub ReplayStaysTaken : Type 0
ReplayStaysTaken = (m : List (ℕ × ℕ)) (k l : ComplexView) (flips : List Flip) → RenamesAll m k flips → replay k flips ≡ Some l →
    Renames m l

-- the flips lead to a complex exactly where the named flips lead to the renamed one
abbrev pub ReplayIsKept : Type 0
ReplayIsKept = (m : List (ℕ × ℕ)) (k l : ComplexView) (flips : List Flip) → RenamesAll m k flips → Renames m l →
    (replay k flips ≡ Some l) ↔ (replay (renamed k m) (named_flips m flips) ≡ Some (renamed l m))

-- the same flip is the first illegal one, for the same reason
abbrev pub FirstIllegalIsKept : Type 0
FirstIllegalIsKept = (m : List (ℕ × ℕ)) (k : ComplexView) (flips : List Flip) (number : ℕ) (reason : Illegal) → RenamesAll m k flips →
    IsFirstIllegal k flips number reason ↔ IsFirstIllegal (renamed k m) (named_flips m flips) number reason

-- ---- boundaries and certificates

abbrev pub BoundaryIsKept : Type 0
BoundaryIsKept = (m : List (ℕ × ℕ)) (k : ComplexView) → Renames m k → IsBoundary k ↔ IsBoundary (renamed k m)

abbrev pub CertificateIsKept : Type 0
CertificateIsKept = (m : List (ℕ × ℕ)) (k : ComplexView) (flips : List Flip) → RenamesAll m k flips →
    SphereCert k flips ↔ SphereCert (renamed k m) (named_flips m flips)

-- ---- the way back

-- the map back: the pairs turned round, rising
abbrev pub map_back : List (ℕ × ℕ) → List (ℕ × ℕ)
map_back m = rising pair_cmp (turned m)

-- it takes the labels of the renamed complex and of the named flips, and makes of them those that were before
pub record IsUndone (m : List (ℕ × ℕ)) (k : ComplexView) (flips : List Flip) : Type 0 where
  pub back : RenamesAll (map_back m) (renamed k m) (named_flips m flips)
  pub complex : renamed (renamed k m) (map_back m) ≡ k
  pub flips_are : named_flips (map_back m) (named_flips m flips) ≡ flips

abbrev pub RenamingIsUndone : Type 0
RenamingIsUndone = (m : List (ℕ × ℕ)) (k : ComplexView) (flips : List Flip) → RenamesAll m k flips → IsUndone m k flips

-- ---- flips that bring no new label

-- B has two labels or more, so the index, which is the size of B less 1, is at least 1
abbrev pub HasPositiveIndex : Flip → Type 0
HasPositiveIndex f = 2 ≤ length f.b

-- where such flips are legal in order, all of their labels are labels of the complex, so a map that takes these takes those
abbrev pub ReducingFlipsStay : Type 0
ReducingFlipsStay = (m : List (ℕ × ℕ)) (k l : ComplexView) (flips : List Flip) → takes_all m k.facets ≡ true →
    AllByRecursion OfFaces flips → AllByRecursion HasPositiveIndex flips → replay k flips ≡ Some l → takes_flips m flips ≡ true
