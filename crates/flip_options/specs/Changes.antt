-- Which flips of an index above d/2 come or go by a flip.
use Rattle.std.specs.Prelude.{◌≡◌, false, ℕ, List, Ok}
use Rattle.complex_core.specs.Labels.{holds, union}
use Rattle.complex_core.specs.Complexes.{ComplexView, IsComplex}
use Rattle.flip_rules.specs.Flips.{broken_rule, flipped, OfFaces}
use Rattle.flip_rules.specs.declared.flip.Flip.{Flip}
use Rattle.descent_laws.specs.Descents.{IsReducing}
use Rattle.flip_options.specs.Candidates.{flip_from}

-- a flip (C, D) whose C has a label beside A and B goes only where D is B, and comes only where D is A
pub record StayBeside (k l : ComplexView) (a b : List ℕ) : Type 0 where
  pub goes : (c d : List ℕ) → holds (union a b) c ≡ false → IsReducing k (flip_from c d) → (d ≡ b → ⊥) → IsReducing l (flip_from c d)
  pub comes : (c d : List ℕ) → holds (union a b) c ≡ false → IsReducing l (flip_from c d) → (d ≡ a → ⊥) → IsReducing k (flip_from c d)

-- so it is by each legal flip (A, B)
abbrev pub FlipsStay : Type 0
FlipsStay = (k : ComplexView) (f : Flip) → IsComplex k → OfFaces f → broken_rule k f.a f.b ≡ Ok tt → StayBeside k (flipped k f.a f.b) f.a f.b
