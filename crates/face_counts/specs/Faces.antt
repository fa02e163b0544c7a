-- The faces of a complex, and how many there are of each size.
use Rattle.std.specs.Prelude.{◌↔◌, ℕ, ◌+◌, zero, suc, Bool, true, false, IsTrue, nat_eq, List, [], ◌∷◌, ◌++◌, length, map, filter}
use Rattle.std.specs.List.{flat_map}
use Rattle.std.specs.List.Sorted.{IsStrictlySortedBy}
use Rattle.complex_core.specs.Labels.{IsFace, face_cmp}
use Rattle.complex_core.specs.Rising.{rising}
use Rattle.complex_core.specs.Complexes.{ComplexView, is_face}
use Rattle.complex_core.specs.Subsets.{lists}

-- all subsets of a set of labels
abbrev pub subsets : List ℕ → List (List ℕ)
subsets [] = [] ∷ []
subsets (x ∷ xs) = subsets xs ++ map (λ s. x ∷ s) (subsets xs)

-- the sets that some facet contains, rising, each once
abbrev pub parts : List (List ℕ) → List (List ℕ)
parts facets = rising face_cmp (flat_map subsets facets)

abbrev pub is_some : List ℕ → Bool
is_some [] = false
is_some (x ∷ xs) = true

-- the faces: those that aren't empty
abbrev pub faces : List (List ℕ) → List (List ℕ)
faces facets = filter is_some (parts facets)

-- f_j of a list of faces: how many have j + 1 labels
abbrev pub number : List (List ℕ) → ℕ → ℕ
number sets j = length (filter (λ s. nat_eq (length s) (j + 1)) sets)

-- f_0 to f_(n - 1)
abbrev pub numbers : List (List ℕ) → ℕ → List ℕ
numbers sets zero = []
numbers sets (suc n) = numbers sets n ++ number sets n ∷ []

-- the sets are the faces of a complex, rising, each once
pub record AreFaces (k : ComplexView) (sets : List (List ℕ)) : Type 0 where
  pub rise : IsStrictlySortedBy face_cmp sets
  pub each : (set : List ℕ) → IsTrue (lists sets set) ↔ (IsFace set × IsTrue (is_face k.facets set))
