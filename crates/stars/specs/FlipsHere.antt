-- What flips make of the stars that are held.
use Rattle.std.specs.Prelude.{◌≡◌, ℕ, false, ◌||◌, if◌then◌else◌, List, map, Some, Ok}
use Rattle.std.specs.List.{AllByRecursion}
use Rattle.complex_core.specs.Labels.{has}
use Rattle.complex_core.specs.Complexes.{ComplexView}
use Rattle.flip_rules.specs.Flips.{OfFaces, replay, broken_rule, flipped}
use Rattle.flip_rules.specs.declared.flip.Flip.{Flip}
use Rattle.star_laws.specs.Stars.{star, star_after, star_after_all, flips_touch, LabelsPass}
use Rattle.stars.specs.StarViews.{VertexStar, AreStarsOf, vertices}

-- a star after the flip (A, B): that of a label outside A ∪ B stays
abbrev pub star_flipped : List ℕ → List ℕ → VertexStar → VertexStar
star_flipped a b s = record s { rows = (if has a s.vertex || has b s.vertex then star_after s.rows a b s.vertex else s.rows) }

-- all of these stars after it
abbrev pub stars_flipped : List VertexStar → List ℕ → List ℕ → List VertexStar
stars_flipped near a b = map (star_flipped a b) near

-- a star after one flip after another
abbrev pub star_replayed : List Flip → VertexStar → VertexStar
star_replayed flips s = record s { rows = star_after_all s.rows flips s.vertex }

-- all of these stars after them
abbrev pub stars_replayed : List VertexStar → List Flip → List VertexStar
stars_replayed near flips = map (star_replayed flips) near

-- the flips replay on the complex, the held stars become what is seen on them, and every other star stays
pub record ReplaysHere (l : ComplexView) (near : List VertexStar) (flips : List Flip) : Type 0 where
  pub end : ComplexView
  pub replays : replay l flips ≡ Some end
  pub held : AreStarsOf end (stars_replayed near flips)
  pub others : (p : ℕ) → flips_touch p flips ≡ false → star end.facets p ≡ star l.facets p

-- the inverse of the flip is legal after it, and leads back to these stars
pub record Undoes (k : ComplexView) (near : List VertexStar) (f : Flip) : Type 0 where
  pub legal : broken_rule (flipped k f.a f.b) f.b f.a ≡ Ok tt
  pub same : stars_flipped (stars_flipped near f.a f.b) f.b f.a ≡ near

-- a legal flip on stars of a complex can be undone
abbrev pub UndoLaw : Type 0
UndoLaw = (k : ComplexView) (near : List VertexStar) (f : Flip) → AreStarsOf k near → OfFaces f → broken_rule k f.a f.b ≡ Ok tt → Undoes k near f

-- flips whose labels are all held, and that replay on one complex with these stars, do so on every complex with them
abbrev pub FlipsSeenHere : Type 0
FlipsSeenHere = (k m l : ComplexView) (near : List VertexStar) (flips : List Flip) → AreStarsOf k near → replay k flips ≡ Some m → AllByRecursion OfFaces flips → LabelsPass (has (vertices near)) flips → AreStarsOf l near → ReplaysHere l near flips
