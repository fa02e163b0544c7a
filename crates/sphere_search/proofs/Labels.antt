-- The labels of a search's flips, by the labels of the complex.
use Rattle.std.proofs.Common.{ℕ, zero, suc, ◌+◌, ◌-◌, ◌≤◌, List, [], ◌∷◌, length, arith}
use Rattle.std.specs.Prelude.{slice_index}
use Rattle.std.specs.List.{AllByRecursion}
use Rattle.complex_core.specs.Complexes.{ComplexView}
use Rattle.complex_core.specs.Maps.{used, greatest}
use Rattle.flip_rules.specs.declared.flip.Flip.{Flip}
use Rattle.sphere_search.specs.Searches.{UsesAtMost, FlipAtMost, ShowsSphere}

pub greatest_small : (n : ℕ) (xs : List ℕ) → AllByRecursion (λ x. x ≤ n) xs → greatest xs ≤ n
greatest_small n xs h = at xs (length xs - 1) h
  where
    at : (xs : List ℕ) (i : ℕ) → AllByRecursion (λ x. x ≤ n) xs → slice_index xs i ≤ n
    at [] i h = omega arith
    at (x ∷ xs) zero h = h.0
    at (x ∷ xs) (suc i) h = at xs i h.1

pub all_below : (n m : ℕ) (xs : List ℕ) → n ≤ m → AllByRecursion (λ x. x ≤ n) xs → AllByRecursion (λ x. x ≤ m) xs
all_below n m [] le h = tt
all_below n m (x ∷ xs) le h = (omega (arith, h.0, le), all_below n m xs le h.1)

flips_below : (n m : ℕ) (flips : List Flip) → n ≤ m → AllByRecursion (FlipAtMost n) flips → AllByRecursion (FlipAtMost m) flips
flips_below n m [] le h = tt
flips_below n m (f ∷ flips) le h = (record { first = all_below n m f.a le h.0.first; second = all_below n m f.b le h.0.second }, flips_below n m flips le h.1)

pub labels_are_few : (n : ℕ) (k : ComplexView) (flips : List Flip) → UsesAtMost n k → ShowsSphere k flips → AllByRecursion (FlipAtMost (n + 1024)) flips
labels_are_few n k flips h s = flips_below (greatest (used k.facets) + 1024) (n + 1024) flips (omega (arith, greatest_small n (used k.facets) h)) s.labels
