-- Descents as the program makes them.
use Rattle.std.specs.Prelude.{◌≡◌, ℕ, List, Option}
use Rattle.complex_core.specs.Maps.{renamed, names_of, turned}
use Rattle.complex_core.specs.Complexes.{ComplexView}
use Rattle.flip_rules.specs.declared.flip.Flip.{Flip}
use Rattle.stars.specs.StarViews.{StarList, IsStarListOf}
use Rattle.descent_laws.specs.Descents.{IsDescent}
use Rattle.flip_options.specs.OptionViews.{AreOptions}

-- the stars and the options are those of the complex
pub record AreHeld (k : ComplexView) (stars : StarList) (options : Option (List Flip)) : Type 0 where
  pub rows : IsStarListOf k stars
  pub had : AreOptions k options

-- the complex as it was given, the labels that its places stand for, the flips on the places, and the complex after them
pub record DescentView : Type 0 where
  pub input : ComplexView
  pub names : List (ℕ × ℕ)
  pub flips : List Flip
  pub end : ComplexView

-- the flips are the descent of the complex on its places
pub record IsDescentOf (given : ComplexView) (room : ℕ) (d : DescentView) : Type 0 where
  pub input : d.input ≡ given
  pub names : d.names ≡ names_of given.facets room
  pub descent : IsDescent (renamed given (turned d.names)) d.flips d.end
