-- Signs of facets, and the signs that they induce at ridges.
use Rattle.std.specs.Prelude.{◌≡◌, ◌≢◌, ◌⊎◌, true, false, ℕ, zero, suc, Bool, not, nat_lt, nat_eq, cond, List, [], ◌∷◌, length, filter, Option, None, Some}
use Rattle.std.specs.List.{AllByRecursion}
use Rattle.std.specs.Cmp.Lexicographic.{pointwise}
use lib.IntN.{ℤ, pos, negsuc, ◌+ℤ◌, neg_ℤ}
use Rattle.complex_core.specs.Labels.{has, without}
use Rattle.complex_core.specs.Complexes.{is_facet}
use Rattle.pseudo_test.specs.Ridges.{count}

-- whether a number is odd
abbrev pub odd : ℕ → Bool
odd zero = false
odd (suc n) = not (odd n)

-- the product of two signs, where true stands for -1
abbrev pub times : Bool → Bool → Bool
times true c = not c
times false c = c

-- the position of a label, from 0: how many labels are less
abbrev pub position : List ℕ → ℕ → ℕ
position f x = length (filter (λ y. nat_lt y x) f)

-- the facet's sign times (-1)^k, where k is the position of the dropped label
abbrev pub induced : (List ℕ → Bool) → List ℕ → ℕ → Bool
induced signs f x = times (signs f) (odd (position f x))

-- at a ridge of two facets, f without x and g without y, the two induced signs are opposite
pub record IsOrientation (facets : List (List ℕ)) (signs : List ℕ → Bool) : Type 0 where
  pub opposite : (f g : List ℕ) (x y : ℕ) → is_facet facets f ≡ true → is_facet facets g ≡ true → has f x ≡ true → has g y ≡ true → (f ≢ g) → without f x ≡ without g y → count facets (without f x) ≡ 2 → induced signs f x ≡ not (induced signs g y)

-- there are such signs
pub record Orientable (facets : List (List ℕ)) : Type 0 where
  pub signs : List ℕ → Bool
  pub is : IsOrientation facets signs

-- ---- signs as numbers, one for each facet in order

-- the sign of a facet in such a list
abbrev pub sign_of : List (List ℕ) → List ℤ → List ℕ → ℤ
sign_of [] signs f = pos 0
sign_of (g ∷ rest) [] f = pos 0
sign_of (g ∷ rest) (s ∷ signs) f = cond (pointwise nat_eq g f) s (sign_of rest signs f)

-- a sign times (-1)^n
abbrev pub turned : ℤ → ℕ → ℤ
turned s n = cond (odd n) (neg_ℤ s) s

-- 1 or -1
abbrev pub IsSign : ℤ → Type 0
IsSign s = (s ≡ pos 1) ⊎ (s ≡ negsuc 0)

-- one sign for each facet, 1 or -1, such that at each ridge of two facets the two induced signs add up to 0
pub record OrientsBy (facets : List (List ℕ)) (signs : List ℤ) : Type 0 where
  pub many : length signs ≡ length facets
  pub units : AllByRecursion IsSign signs
  pub adds : (f g : List ℕ) (x y : ℕ) → is_facet facets f ≡ true → is_facet facets g ≡ true → has f x ≡ true → has g y ≡ true → (f ≢ g) → without f x ≡ without g y → count facets (without f x) ≡ 2 → turned (sign_of facets signs f) (position f x) +ℤ turned (sign_of facets signs g) (position g y) ≡ pos 0

-- a sign as a number
abbrev pub value : Bool → ℤ
value s = cond s (negsuc 0) (pos 1)

-- a sign that was given, or 1
abbrev pub chosen : Option Bool → Bool
chosen None = false
chosen (Some s) = s
