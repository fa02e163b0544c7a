-- The subsets of a face that have a given size.
use Rattle.std.specs.Prelude.{◌≡◌, ℕ, Bool, zero, suc, List, [], ◌∷◌, ◌++◌, IsTrue, nat_eq, length, map}
use Rattle.std.specs.List.{list_any}
use Rattle.std.specs.Cmp.Lexicographic.{pointwise}
use Rattle.complex_core.specs.Labels.{IsFace, holds}

-- a face with so many labels, all of them in xs
pub record IsSubset (xs : List ℕ) (n : ℕ) (set : List ℕ) : Type 0 where
  pub face : IsFace set
  pub part : IsTrue (holds xs set)
  pub size : length set ≡ n

-- whether a set is in a list of sets
abbrev pub lists : List (List ℕ) → List ℕ → Bool
lists sets set = list_any (λ s. pointwise nat_eq s set) sets

-- all subsets of a size: those with the first label, then those without it
abbrev pub subsets_of : ℕ → List ℕ → List (List ℕ)
subsets_of zero xs = [] ∷ []
subsets_of (suc n) [] = []
subsets_of (suc n) (x ∷ xs) = map (λ s. x ∷ s) (subsets_of n xs) ++ subsets_of (suc n) xs
