-- Options as contracts see them: the candidates, best first, or nothing once they are given up.
use Rattle.std.specs.Prelude.{◌≡◌, true, List, Ok, Option, Some, None}
use Rattle.complex_core.specs.Complexes.{ComplexView, IsComplex}
use Rattle.flip_rules.specs.Flips.{broken_rule, flipped, OfFaces}
use Rattle.flip_rules.specs.declared.flip.Flip.{Flip}
use Rattle.stars.specs.StarViews.{StarList, IsStarListOf}
use Rattle.descent_laws.specs.Descents.{AreCandidates}
use Rattle.flip_options.specs.Candidates.{Candidates, flips_of, is_sized}
use Rattle.std.specs.Prelude.{Bool}

-- the flips of the table, if there is one
abbrev pub found_flips : Option Candidates → Option (List Flip)
found_flips None = None
found_flips (Some m) = Some (flips_of m)

abbrev pub has_sizes : Option Candidates → Bool
has_sizes None = true
has_sizes (Some m) = is_sized m

-- the options are all legal flips of the complex of an index above d/2, best first
pub record AreOptions (k : ComplexView) (options : Option (List Flip)) : Type 0 where
  pub flips : List Flip
  pub kept : options ≡ Some flips
  pub all : AreCandidates k flips

-- the options are those of the complex, on which the flip is legal, and the stars are those after it
pub record IsStep (k : ComplexView) (options : Option (List Flip)) (stars : StarList) (flip : Flip) : Type 0 where
  pub complex : IsComplex k
  pub had : AreOptions k options
  pub faces : OfFaces flip
  pub legal : broken_rule k flip.a flip.b ≡ Ok tt
  pub after : IsStarListOf (flipped k flip.a flip.b) stars
