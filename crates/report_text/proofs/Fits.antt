-- Flips that are legal in order keep, under small names, the limits of the text of a certificate.
use Rattle.std.proofs.Common.{◌≡◌, ℕ, ◌<◌, ◌≤◌, true, false, nat_eq, cond, ◌||◌, List, [], ◌∷◌, length, map, Some, Ok, sym, refl, arith}
use Rattle.std.specs.List.{AllByRecursion}
use Rattle.std.specs.Ordering.{nat_cmp}
use Rattle.std.specs.Cmp.{first_so, second_so}
use Rattle.std.proofs.lemmas.Bool.Decides.{nat_tests}
use Rattle.complex_core.specs.Labels.{IsFace}
use Rattle.complex_core.specs.Maps.{IsMap, ArePositive, takes, at, face_image}
use Rattle.complex_core.specs.Complexes.{ComplexView}
use Rattle.complex_core.proofs.Sets.{each_rising}
use Rattle.complex_core.proofs.SubsetLists.{clash}
use Rattle.line_text.specs.Labels.{allows}
use Rattle.line_text.specs.Writing.{IsSide, HasSides}
use Rattle.line_text.specs.declared.label.Labels.TheVariants.{UpTo}
use Rattle.flip_rules.specs.Flips.{OfFaces, Legal, broken_rule, flipped, replay}
use Rattle.flip_rules.specs.declared.flip.Flip.{Flip}
use Rattle.flip_rules.proofs.Legal.{legal}
use Rattle.flip_rules.proofs.Replays.{first_flip}
use Rattle.flip_names.specs.Names.{named_flip, named_flips, takes_flip, takes_flips}
use Rattle.flip_names.specs.Laws.{KeepsSizes}
use Rattle.flip_names.proofs.Faces.{sizes_are_kept}
use Rattle.flip_names.proofs.Flips.{takes_first, takes_second}
use Rattle.flip_names.proofs.Images.{Taken}
use Rattle.sphere_text.proofs.Fits.{AreSmall}

-- a text may use the label
abbrev Allowed : ℕ → Type 0
Allowed n = allows (UpTo 65000) n ≡ true

small_allowed : (n : ℕ) → 0 < n → n ≤ 61024 → Allowed n
unfolding allows
small_allowed n low high = grind (arith, nat_tests)

name_allowed : (m : List (ℕ × ℕ)) (x : ℕ) → ArePositive m → AreSmall m → takes m x ≡ true → Allowed (at m x)
name_allowed [] x p s t = clash true refl (sym t)
name_allowed (q ∷ qs) x p s t = elim (nat_eq q.0 x) as (λ b. (b || takes qs x) ≡ true → Allowed (cond b q.1 (at qs x))) [
  | true ↦ λ _. small_allowed q.1 p.0.1 s.0
  | false ↦ λ u. name_allowed qs x p.1 s.1 u
] t

names_allowed : (m : List (ℕ × ℕ)) (f : List ℕ) → ArePositive m → AreSmall m → Taken m f → AllByRecursion Allowed (map (at m) f)
names_allowed m [] p s t = tt
names_allowed m (x ∷ xs) p s t = (name_allowed m x p s (first_so (takes m x) _ t), names_allowed m xs p s (second_so (takes m x) _ t))

side_fits : (m : List (ℕ × ℕ)) (f : List ℕ) → IsMap m → AreSmall m → Taken m f → IsFace (face_image m f) → 0 < length (face_image m f) → length (face_image m f) ≤ 7 → IsSide (UpTo 65000) (face_image m f)
side_fits m f i s t face some few = record { low = some; high = few; rising = face.rising; allowed = each_rising nat_cmp Allowed (map (at m) f) (names_allowed m f i.positive s t) }

flip_fits : (m : List (ℕ × ℕ)) (k : ComplexView) (f : Flip) → IsMap m → AreSmall m → k.dim ≤ 6 → takes_flip m f ≡ true → Legal k f.a f.b → KeepsSizes f (named_flip m f) → HasSides (UpTo 65000) (named_flip m f)
flip_fits m k f i s d t l z = record {
  a = side_fits m f.a i s (takes_first m f t) z.faces.first (omega (arith, z.first, l.shape.first)) (omega (arith, z.first, l.shape.second, l.shape.sizes, d));
  b = side_fits m f.b i s (takes_second m f t) z.faces.second (omega (arith, z.second, l.shape.second)) (omega (arith, z.second, l.shape.first, l.shape.sizes, d));
}

pub legal_flips_fit : (m : List (ℕ × ℕ)) (k end : ComplexView) (flips : List Flip) → IsMap m → AreSmall m → k.dim ≤ 6 → AllByRecursion OfFaces flips → replay k flips ≡ Some end → takes_flips m flips ≡ true → AllByRecursion (HasSides (UpTo 65000)) (named_flips m flips)
legal_flips_fit m k end [] i s d faces r t = tt
legal_flips_fit m k end (f ∷ fs) i s d faces r t =
    let p : (broken_rule k f.a f.b ≡ Ok tt) × (replay (flipped k f.a f.b) fs ≡ Some end) = first_flip k end f fs r in
    let here : takes_flip m f ≡ true = first_so (takes_flip m f) (takes_flips m fs) t in (
      flip_fits m k f i s d here (legal k f.a f.b p.0) (sizes_are_kept m f i faces.0 here),
      legal_flips_fit m (flipped k f.a f.b) end fs i s d faces.1 p.1 (second_so (takes_flip m f) (takes_flips m fs) t),
    )
