-- How large the labels of a search's flips can be.
use Rattle.std.specs.Prelude.{ℕ, ◌+◌, List}
use Rattle.std.specs.List.{AllByRecursion}
use Rattle.complex_core.specs.Complexes.{ComplexView}
use Rattle.flip_rules.specs.declared.flip.Flip.{Flip}
use Rattle.sphere_search.specs.Searches.{UsesAtMost, FlipAtMost, ShowsSphere}

-- where no label of a complex is above n, flips that show it to be a sphere use none above n + 1,024
abbrev pub LabelsAreFew : Type 0
LabelsAreFew = (n : ℕ) (k : ComplexView) (flips : List Flip) → UsesAtMost n k → ShowsSphere k flips → AllByRecursion (FlipAtMost (n + 1024)) flips
