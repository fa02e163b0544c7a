-- No label of the flips that are told is above the greatest of the complex and the room behind it.
use Rattle.std.proofs.Common.{ℕ, zero, suc, ◌+◌, ◌≤◌, nat_eq, cond, true, false, List, [], ◌∷◌, ◌++◌, map, refl, arith}
use Rattle.std.specs.List.{AllByRecursion}
use Rattle.std.specs.Ordering.{nat_cmp}
use Rattle.complex_core.specs.Complexes.{ComplexView}
use Rattle.complex_core.specs.Maps.{at, face_image, numbered, names_of, used, greatest, next_after}
use Rattle.complex_core.proofs.Sets.{each_rising}
use Rattle.complex_core.proofs.Sorting.{each_append}
use Rattle.flip_rules.specs.declared.flip.Flip.{Flip}
use Rattle.flip_names.specs.Names.{named_flips}
use Rattle.flip_options.proofs.Descending.{uses_up_to}
use Rattle.sphere_search.specs.Searches.{FlipAtMost}
use Rattle.sphere_search.proofs.Labels.{all_below}

-- ---- the names

abbrev NamesAtMost : ℕ → List (ℕ × ℕ) → Type 0
NamesAtMost n m = AllByRecursion (λ p. p.1 ≤ n) m

next_at_most : (n last room : ℕ) → last + room ≤ n → AllByRecursion (λ x. x ≤ n) (next_after last room)
next_at_most n last zero l = tt
next_at_most n last (suc room) l = (omega (arith, l), next_at_most n (last + 1) room (omega (arith, l)))

numbered_at_most : (n i : ℕ) (xs : List ℕ) → AllByRecursion (λ x. x ≤ n) xs → NamesAtMost n (numbered i xs)
numbered_at_most n i [] h = tt
numbered_at_most n i (x ∷ xs) h = (h.0, numbered_at_most n (i + 1) xs h.1)

names_at_most : (n room : ℕ) (k : ComplexView) → greatest (used k.facets) + room ≤ n → NamesAtMost n (names_of k.facets room)
names_at_most n room k l =
    let last : ℕ = greatest (used k.facets) in
    let first : AllByRecursion (λ x. x ≤ n) (used k.facets) = all_below last n (used k.facets) (omega (arith, l)) (uses_up_to k (used k.facets) (used k.facets) last refl refl refl) in
    numbered_at_most n 1 (used k.facets ++ next_after last room) (each_append (λ x. x ≤ n) (used k.facets) (next_after last room) first (next_at_most n last room l))

-- ---- the flips under the names

name_at_most : (n : ℕ) (m : List (ℕ × ℕ)) (x : ℕ) → NamesAtMost n m → at m x ≤ n
name_at_most n [] x h = omega arith
name_at_most n (p ∷ ps) x h = elim (nat_eq p.0 x) as (λ b. cond b p.1 (at ps x) ≤ n) [ true ↦ h.0 | false ↦ name_at_most n ps x h.1 ]

face_at_most : (n : ℕ) (m : List (ℕ × ℕ)) (f : List ℕ) → NamesAtMost n m → AllByRecursion (λ x. x ≤ n) (face_image m f)
face_at_most n m f h = each_rising nat_cmp (λ x. x ≤ n) (map (at m) f) (each f)
  where
    each : (xs : List ℕ) → AllByRecursion (λ x. x ≤ n) (map (at m) xs)
    each [] = tt
    each (x ∷ xs) = (name_at_most n m x h, each xs)

flips_at_most : (n : ℕ) (m : List (ℕ × ℕ)) (flips : List Flip) → NamesAtMost n m → AllByRecursion (FlipAtMost n) (named_flips m flips)
flips_at_most n m [] h = tt
flips_at_most n m (f ∷ flips) h = (record { first = face_at_most n m f.a h; second = face_at_most n m f.b h }, flips_at_most n m flips h)

pub told_at_most : (n room : ℕ) (k : ComplexView) (flips : List Flip) → greatest (used k.facets) + room ≤ n → AllByRecursion (FlipAtMost n) (named_flips (names_of k.facets room) flips)
told_at_most n room k flips l = flips_at_most n (names_of k.facets room) flips (names_at_most n room k l)
