-- Flips of an index above half the dimension, the best of them, and the descent that makes the best one each time.
use Rattle.std.specs.Prelude.{◌≡◌, ◌-◌, ◌*◌, ◌<◌, ◌≤◌, List, [], ◌∷◌, length, Ok, Contains}
use Rattle.std.specs.List.{AllByRecursion}
use Rattle.std.specs.List.Sorted.{IsStrictlySortedBy}
use Rattle.std.specs.Ordering.{nat_cmp, ordering_then}
use Rattle.std.specs.declared.cmp.Ordering.{Ordering}
use Rattle.std.specs.declared.cmp.Ordering.TheVariants.{Less}
use Rattle.complex_core.specs.Labels.{face_cmp}
use Rattle.complex_core.specs.Complexes.{ComplexView}
use Rattle.flip_rules.specs.Flips.{OfFaces, broken_rule, flipped}
use Rattle.flip_rules.specs.declared.flip.Flip.{Flip}

-- a legal flip whose index, the number of labels of B less 1, is above d/2
pub record IsReducing (k : ComplexView) (f : Flip) : Type 0 where
  pub faces : OfFaces f
  pub legal : broken_rule k f.a f.b ≡ Ok tt
  pub high : k.dim < 2 * (length f.b - 1)

-- no legal flip has an index above d/2
pub record IsMinimal (k : ComplexView) : Type 0 where
  pub none : (f : Flip) → IsReducing k f → ⊥

-- of the legal flips of an index above d/2 none has a greater index, and none of the same index a lesser A
pub record IsBest (k : ComplexView) (f : Flip) : Type 0 where
  pub reduces : IsReducing k f
  pub greatest : (g : Flip) → IsReducing k g → length g.b ≤ length f.b
  pub least : (g : Flip) → IsReducing k g → length g.b ≡ length f.b → face_cmp g.a f.a ≡ Less → ⊥

-- the best flips, each made, until there is none
abbrev pub IsDescent : ComplexView → List Flip → ComplexView → Type 0
IsDescent k [] end = (end ≡ k) × IsMinimal k
IsDescent k (f ∷ fs) end = IsBest k f × IsDescent (flipped k f.a f.b) fs end

-- best first: by the greater index, then by the lesser A, then by the lesser B
abbrev pub best_cmp : Flip → Flip → Ordering
best_cmp f g = ordering_then (nat_cmp (length g.b) (length f.b)) (ordering_then (face_cmp f.a g.a) (face_cmp f.b g.b))

-- these are all legal flips of an index above d/2, best first
pub record AreCandidates (k : ComplexView) (flips : List Flip) : Type 0 where
  pub ordered : IsStrictlySortedBy best_cmp flips
  pub reduce : AllByRecursion (IsReducing k) flips
  pub all : (f : Flip) → IsReducing k f → Contains flips f
