-- The flips of a descent, in the labels of its complex, keep the limits of the text of a certificate.
use Rattle.std.proofs.Common.{◌≡◌, ℕ, ◌+◌, ◌-◌, ◌<◌, ◌≤◌, zero, suc, get_or, true, false, nat_eq, cond, List, [], ◌∷◌, ◌++◌, length, map, arith}
use Rattle.std.specs.List.{AllByRecursion, flat_map}
use Rattle.std.specs.List.Sorted.{IsStrictlySortedBy}
use Rattle.std.specs.Ordering.{nat_cmp}
use Rattle.std.specs.Cmp.{first_so, second_so}
use Rattle.std.proofs.lemmas.Bool.Decides.{nat_tests}
use Rattle.complex_core.specs.Labels.{IsFace}
use Rattle.complex_core.specs.Maps.{IsMap, at, numbered, face_image, names_of, used, greatest, next_after}
use Rattle.complex_core.specs.Complexes.{ComplexView}
use Rattle.complex_core.proofs.Sets.{each_rising, above_head, above_tail}
use Rattle.complex_core.proofs.Sorting.{each_append}
use Rattle.complex_core.proofs.Faces.{less_cmp}
use Rattle.facet_text.specs.Writing.{KeepsLimits}
use Rattle.line_text.specs.Labels.{allows}
use Rattle.line_text.specs.Writing.{IsSide, HasSides}
use Rattle.line_text.specs.declared.label.Labels.TheVariants.{UpTo}
use Rattle.flip_rules.specs.Flips.{Legal, flipped}
use Rattle.flip_rules.specs.declared.flip.Flip.{Flip}
use Rattle.flip_rules.proofs.Legal.{legal}
use Rattle.flip_names.specs.Names.{named_flip, named_flips, takes_flip, takes_flips}
use Rattle.flip_names.specs.Laws.{KeepsSizes}
use Rattle.flip_names.proofs.Faces.{sizes_are_kept}
use Rattle.descent_laws.specs.Descents.{IsDescent}

-- ---- names are small

abbrev AtMost : ℕ → List ℕ → Type 0
AtMost most xs = AllByRecursion (λ x. x ≤ most) xs

more_at_most : (low most : ℕ) (xs : List ℕ) → low ≤ most → AtMost low xs → AtMost most xs
more_at_most low most [] l h = tt
more_at_most low most (x ∷ xs) l h = (omega (arith, h.0), more_at_most low most xs l h.1)

flat_at_most : (most : ℕ) (fs : List (List ℕ)) → AllByRecursion (AtMost most) fs → AtMost most (flat_map (λ f. f) fs)
flat_at_most most [] h = tt
flat_at_most most (f ∷ fs) h = each_append (λ x. x ≤ most) f (flat_map (λ g. g) fs) h.0 (flat_at_most most fs h.1)

one_at_most : (most i : ℕ) (xs : List ℕ) → AtMost most xs → get_or xs i 0 ≤ most
one_at_most most i [] h = omega arith
one_at_most most zero (x ∷ xs) h = h.0
one_at_most most (suc i) (x ∷ xs) h = one_at_most most i xs h.1

next_at_most : (most n room : ℕ) → n + room ≤ most → AtMost most (next_after n room)
next_at_most most n zero l = tt
next_at_most most n (suc room) l = (omega arith, next_at_most most (n + 1) room (omega arith))

numbered_at_most : (most k : ℕ) (xs : List ℕ) → AtMost most xs → AllByRecursion (λ p. p.1 ≤ most) (numbered k xs)
numbered_at_most most k [] h = tt
numbered_at_most most k (x ∷ xs) h = (h.0, numbered_at_most most (k + 1) xs h.1)

used_at_most : (k : ComplexView) → KeepsLimits k → AtMost 60000 (used k.facets)
used_at_most k h = each_rising nat_cmp (λ x. x ≤ 60000) (flat_map (λ f. f) k.facets) (flat_at_most 60000 k.facets h.small)

pub greatest_at_most : (k : ComplexView) → KeepsLimits k → greatest (used k.facets) ≤ 60000
greatest_at_most k h = one_at_most 60000 (length (used k.facets) - 1) (used k.facets) (used_at_most k h)

-- the names of places are at most this number
abbrev pub AreSmall : List (ℕ × ℕ) → Type 0
AreSmall m = AllByRecursion (λ p. p.1 ≤ 61024) m

pub names_are_small : (k : ComplexView) (room : ℕ) → KeepsLimits k → room ≤ 1024 → AreSmall (names_of k.facets room)
names_are_small k room h r =
    let first : AtMost 61024 (used k.facets) = more_at_most 60000 61024 (used k.facets) (omega arith) (used_at_most k h) in
    let next : AtMost 61024 (next_after (greatest (used k.facets)) room) = next_at_most 61024 (greatest (used k.facets)) room (omega (arith, greatest_at_most k h, r)) in
    numbered_at_most 61024 1 (used k.facets ++ next_after (greatest (used k.facets)) room) (each_append (λ x. x ≤ 61024) (used k.facets) (next_after (greatest (used k.facets)) room) first next)

at_small : (m : List (ℕ × ℕ)) (x : ℕ) → AreSmall m → at m x ≤ 61024
at_small [] x h = omega arith
at_small (p ∷ ps) x h = elim (nat_eq p.0 x) as (λ b. cond b p.1 (at ps x) ≤ 61024) [ true ↦ h.0 | false ↦ at_small ps x h.1 ]

all_at_small : (m : List (ℕ × ℕ)) (f : List ℕ) → AreSmall m → AtMost 61024 (map (at m) f)
all_at_small m [] h = tt
all_at_small m (x ∷ xs) h = (at_small m x h, all_at_small m xs h)

image_small : (m : List (ℕ × ℕ)) (f : List ℕ) → AreSmall m → AtMost 61024 (face_image m f)
image_small m f h = each_rising nat_cmp (λ x. x ≤ 61024) (map (at m) f) (all_at_small m f h)

-- ---- sides

allowed : (n : ℕ) → 0 < n → n ≤ 61024 → allows (UpTo 65000) n ≡ true
unfolding allows
allowed n low high = grind (arith, nat_tests)

all_allowed : (low : ℕ) (g : List ℕ) → IsStrictlySortedBy nat_cmp (low ∷ g) → AtMost 61024 g → AllByRecursion (λ n. allows (UpTo 65000) n ≡ true) g
all_allowed low [] s h = tt
all_allowed low (n ∷ ns) s h =
    let l : low < n = less_cmp low n (above_head nat_cmp low (n ∷ ns) s).0 in
    (allowed n (omega arith) h.0, all_allowed n ns (above_tail nat_cmp low (n ∷ ns) s) h.1)

side_fits : (g : List ℕ) → IsFace g → 0 < length g → length g ≤ 7 → AtMost 61024 g → IsSide (UpTo 65000) g
side_fits g f some few h = record { low = some; high = few; rising = f.rising; allowed = all_allowed 0 g f.rising h }

flip_fits : (m : List (ℕ × ℕ)) (k : ComplexView) (f : Flip) → AreSmall m → k.dim ≤ 6 → Legal k f.a f.b → KeepsSizes f (named_flip m f) → HasSides (UpTo 65000) (named_flip m f)
flip_fits m k f s d l z = record {
  a = side_fits (face_image m f.a) z.faces.first (omega (arith, z.first, l.shape.first)) (omega (arith, z.first, l.shape.second, l.shape.sizes, d)) (image_small m f.a s);
  b = side_fits (face_image m f.b) z.faces.second (omega (arith, z.second, l.shape.second)) (omega (arith, z.second, l.shape.first, l.shape.sizes, d)) (image_small m f.b s);
}

pub flips_fit : (m : List (ℕ × ℕ)) (k end : ComplexView) (flips : List Flip) → IsMap m → AreSmall m → k.dim ≤ 6 → IsDescent k flips end → takes_flips m flips ≡ true → AllByRecursion (HasSides (UpTo 65000)) (named_flips m flips)
flips_fit m k end [] i s d h t = tt
flips_fit m k end (f ∷ fs) i s d h t = (
  flip_fits m k f s d (legal k f.a f.b h.0.reduces.legal) (sizes_are_kept m f i h.0.reduces.faces (first_so (takes_flip m f) (takes_flips m fs) t)),
  flips_fit m (flipped k f.a f.b) end fs i s d h.1 (second_so (takes_flip m f) (takes_flips m fs) t),
)
