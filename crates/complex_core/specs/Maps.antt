-- A map of labels as a list of pairs of numbers from 1, rising, that share no first and no second number.
--     at m x           the number that x becomes, or 0
--     face_image m f   what a set of labels becomes, rising
--     image m fs       what a list of such sets becomes, rising
use Rattle.std.specs.Prelude.{◌≡◌, ℕ, ◌<◌, ◌+◌, ◌-◌, zero, suc, Bool, false, nat_eq, if◌then◌else◌, List, [], ◌∷◌, ◌++◌, length, map, slice_index}
use Rattle.std.specs.List.{list_any, list_all, AllByRecursion, flat_map}
use Rattle.std.specs.List.Sorted.{IsStrictlySortedBy}
use Rattle.std.specs.Ordering.{nat_cmp, ordering_then}
use Rattle.std.specs.declared.cmp.Ordering.{Ordering}
use Rattle.complex_core.specs.Labels.{face_cmp}
use Rattle.complex_core.specs.Rising.{rising}
use Rattle.complex_core.specs.Complexes.{ComplexView}

-- by the first numbers, and by the second ones where these are equal
abbrev pub pair_cmp : ℕ × ℕ → ℕ × ℕ → Ordering
pair_cmp p q = ordering_then (nat_cmp p.0 q.0) (nat_cmp p.1 q.1)

-- whether some pair has this first number, and whether some pair has this second one
abbrev pub takes : List (ℕ × ℕ) → ℕ → Bool
takes pairs x = list_any (λ p. nat_eq p.0 x) pairs

abbrev pub reaches : List (ℕ × ℕ) → ℕ → Bool
reaches pairs y = list_any (λ p. nat_eq p.1 y) pairs

-- no two pairs share a first or a second number
abbrev pub Differ : List (ℕ × ℕ) → Type 0
Differ [] = Unit {0}
Differ (p ∷ ps) = (takes ps p.0 ≡ false) × (reaches ps p.1 ≡ false) × Differ ps

-- all numbers are at least 1
abbrev pub ArePositive : List (ℕ × ℕ) → Type 0
ArePositive pairs = AllByRecursion (λ p. (0 < p.0) × (0 < p.1)) pairs

pub record IsMap (pairs : List (ℕ × ℕ)) : Type 0 where
  pub positive : ArePositive pairs
  pub rising : IsStrictlySortedBy pair_cmp pairs
  pub differ : Differ pairs

-- the pairs turned round
abbrev pub turned : List (ℕ × ℕ) → List (ℕ × ℕ)
turned pairs = map (λ p. (p.1, p.0)) pairs

abbrev pub at : List (ℕ × ℕ) → ℕ → ℕ
at [] x = 0
at (p ∷ ps) x = if nat_eq p.0 x then p.1 else at ps x

abbrev pub face_image : List (ℕ × ℕ) → List ℕ → List ℕ
face_image m f = rising nat_cmp (map (at m) f)

abbrev pub face_images : List (ℕ × ℕ) → List (List ℕ) → List (List ℕ)
face_images m fs = map (face_image m) fs

abbrev pub image : List (ℕ × ℕ) → List (List ℕ) → List (List ℕ)
image m fs = rising face_cmp (face_images m fs)

-- whether each label of the sets has a pair
abbrev pub takes_all : List (ℕ × ℕ) → List (List ℕ) → Bool
takes_all m fs = list_all (λ f. list_all (takes m) f) fs

-- the labels that are used, rising, and the greatest of them
abbrev pub used : List (List ℕ) → List ℕ
used fs = rising nat_cmp (flat_map (λ f. f) fs)

abbrev pub greatest : List ℕ → ℕ
greatest xs = slice_index xs (length xs - 1)

-- the next numbers after a number
abbrev pub next_after : ℕ → ℕ → List ℕ
next_after n zero = []
next_after n (suc room) = (n + 1) ∷ next_after (n + 1) room

-- each number of a list after its position, which is counted on from k
abbrev pub numbered : ℕ → List ℕ → List (ℕ × ℕ)
numbered k [] = []
numbered k (x ∷ xs) = (k, x) ∷ numbered (k + 1) xs

-- a complex with each label replaced by the one that it becomes
abbrev pub renamed : ComplexView → List (ℕ × ℕ) → ComplexView
renamed k m = record { dim = k.dim; facets = image m k.facets }

-- the names of the places from 1 on: the used labels, rising, and as many labels above the greatest as there is room for
abbrev pub names_of : List (List ℕ) → ℕ → List (ℕ × ℕ)
names_of fs room = numbered 1 (used fs ++ next_after (greatest (used fs)) room)
