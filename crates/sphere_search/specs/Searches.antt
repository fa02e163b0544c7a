-- What a search for flips to the boundary of a simplex answers.
use Rattle.std.specs.Prelude.{ℕ, ◌+◌, ◌≤◌, List, length}
use Rattle.std.specs.List.{AllByRecursion}
use Rattle.complex_core.specs.Complexes.{ComplexView}
use Rattle.complex_core.specs.Maps.{used, greatest}
use Rattle.flip_rules.specs.Certificates.{SphereCert}
use Rattle.flip_rules.specs.Flips.{OfFaces}
use Rattle.flip_rules.specs.declared.flip.Flip.{Flip}
use Rattle.sphere_search.specs.declared.search.Searched.{Searched}
use Rattle.sphere_search.specs.declared.search.Searched.TheVariants.{Found, Gave}

-- no label of the complex is above n
abbrev pub UsesAtMost : ℕ → ComplexView → Type 0
UsesAtMost n k = AllByRecursion (λ x. x ≤ n) (used k.facets)

-- no label of the flip is above n
pub record FlipAtMost (n : ℕ) (f : Flip) : Type 0 where
  pub first : AllByRecursion (λ x. x ≤ n) f.a
  pub second : AllByRecursion (λ x. x ≤ n) f.b

-- flips that show that the complex is a sphere: not too many more than it has facets, and with at most 1,024 new labels behind its greatest
pub record ShowsSphere (k : ComplexView) (flips : List Flip) : Type 0 where
  pub faces : AllByRecursion OfFaces flips
  pub leads : SphereCert k flips
  pub few : length flips ≤ length k.facets + 2500000
  pub labels : AllByRecursion (FlipAtMost (greatest (used k.facets) + 1024)) flips

-- what is known of the flips that a search found, or of the record that it gave
abbrev pub Answers : {R : Type 0} → (List Flip → Type 0) → (R → Type 0) → Searched R → Type 0
Answers found gave (Found flips) = found flips.items
Answers found gave (Gave r) = gave r
