-- What a list of flips shows of a complex.
use Rattle.std.specs.Prelude.{◌≡◌, ℕ, ◌+◌, List, ◌∷◌, ◌++◌, length, Err, Some}
use Rattle.complex_core.specs.Complexes.{ComplexView}
use Rattle.flip_rules.specs.Flips.{broken_rule, replay}
use Rattle.flip_rules.specs.Boundaries.{IsBoundary}
use Rattle.flip_rules.specs.declared.flip.Flip.{Flip}
use Rattle.flip_rules.specs.declared.flip.Illegal.{Illegal}

-- the flips are legal in order, and end in the boundary of a simplex
pub record SphereCert (k : ComplexView) (flips : List Flip) : Type 0 where
  pub end : ComplexView
  pub replays : replay k flips ≡ Some end
  pub boundary : IsBoundary end

-- the flips before this one are legal in order, and this one, counted from 1, is not, for this reason
pub record IsFirstIllegal (k : ComplexView) (flips : List Flip) (number : ℕ) (reason : Illegal) : Type 0 where
  pub before : List Flip
  pub flip : Flip
  pub after : List Flip
  pub are : flips ≡ before ++ flip ∷ after
  pub counted : number ≡ length before + 1
  pub there : ComplexView
  pub replays : replay k before ≡ Some there
  pub breaks : broken_rule there flip.a flip.b ≡ Err reason
