-- The stars of the places from 1 on.
use Rattle.std.proofs.Common.{◌≡◌, ℕ, zero, suc, ◌+◌, ◌-◌, ◌<◌, ◌≤◌, true, nat_eq, List, [], ◌∷◌, length, get_or, sym, ◌∙◌, ap, refl, arith, inl, inr}
use Rattle.std.specs.List.{AllByRecursion}
use Rattle.std.specs.List.Sorted.{IsStrictlySortedBy}
use Rattle.std.specs.Ordering.{nat_cmp}
use Rattle.std.specs.Cmp.Derive.{both_true}
use Rattle.std.proofs.lemmas.Bool.{cases_lt}
use Rattle.complex_core.specs.Labels.{IsRising, has, holds}
use Rattle.complex_core.specs.Complexes.{ComplexView}
use Rattle.complex_core.proofs.Sets.{Above, above_cons, above_head, sorted_none}
use Rattle.complex_core.proofs.Faces.{cmp_less, less_cmp}
use Rattle.complex_core.proofs.Laws.{nat_eq_same, or_left, or_right}
use Rattle.flip_rules.specs.Flips.{OfFaces}
use Rattle.flip_rules.specs.declared.flip.Flip.{Flip}
use Rattle.star_laws.specs.Stars.{star}
use Rattle.stars.specs.StarViews.{VertexStar, StarList, numbered, all_stars, vertices, places_in, IsStarOf, AreStarsOf, IsStarListOf, HasLabels, OnPlaces}

pub numbered_at : (d n v : ℕ) (stars : List (List (List ℕ))) (i : ℕ) (other : VertexStar) → i < length stars → v ≡ n + i + 1 → get_or (numbered d n stars) i other ≡ record { vertex = v; dim = d; rows = get_or stars i [] }
numbered_at d n v [] i other l e = absurd (omega (arith, l))
numbered_at d n v (rows ∷ more) zero other l e = let g : n + 1 ≡ v = omega (arith, e) in λ j. record { vertex = g j; dim = d; rows = rows }
numbered_at d n v (rows ∷ more) (suc i) other l e = numbered_at d (n + 1) v more i other (omega (arith, l)) (omega (arith, e))

pub length-numbered : (d n : ℕ) (stars : List (List (List ℕ))) → length (numbered d n stars) ≡ length stars
length-numbered d n [] = refl
length-numbered d n (rows ∷ more) = ap suc (length-numbered d (n + 1) more)

above_numbered : (d n m : ℕ) (stars : List (List (List ℕ))) → m ≤ n → Above nat_cmp m (vertices (numbered d n stars))
above_numbered d n m [] h = tt
above_numbered d n m (rows ∷ more) h = (cmp_less m (n + 1) (omega (arith, h)), above_numbered d (n + 1) m more (omega (arith, h)))

sorted_numbered : (d n : ℕ) (stars : List (List (List ℕ))) → IsStrictlySortedBy nat_cmp (vertices (numbered d n stars))
sorted_numbered d n [] = sorted_none nat_cmp
sorted_numbered d n (rows ∷ more) = above_cons nat_cmp (n + 1) (vertices (numbered d (n + 1) more)) (above_numbered d (n + 1) (n + 1) more (omega arith)) (sorted_numbered d (n + 1) more)

pub rising_numbered : (d : ℕ) (stars : List (List (List ℕ))) → IsRising (vertices (numbered d 0 stars))
rising_numbered d stars = above_cons nat_cmp 0 (vertices (numbered d 0 stars)) (above_numbered d 0 0 stars (omega arith)) (sorted_numbered d 0 stars)

-- each place has its star
pub has_numbered : (d n : ℕ) (stars : List (List (List ℕ))) (x : ℕ) → n < x → x ≤ n + length stars → has (vertices (numbered d n stars)) x ≡ true
has_numbered d n [] x low high = absurd (omega (arith, low, high))
has_numbered d n (rows ∷ more) x low high = elim (cases_lt (n + 1) x) [
  | inl l ↦ or_right (nat_eq (n + 1) x) (has (vertices (numbered d (n + 1) more)) x) (has_numbered d (n + 1) more x l (omega (arith, high)))
  | inr m ↦ let e : n + 1 ≡ x = omega (arith, m, low) in or_left (nat_eq (n + 1) x) (has (vertices (numbered d (n + 1) more)) x) (ap (λ y. nat_eq (n + 1) y) (sym e) ∙ nat_eq_same (n + 1))
]

each_numbered : (k : ComplexView) (d n : ℕ) (stars : List (List (List ℕ))) → d ≡ k.dim → ((i : ℕ) → i < length stars → get_or stars i [] ≡ star k.facets (n + i + 1)) → AllByRecursion (IsStarOf k) (numbered d n stars)
each_numbered k d n [] e h = tt
each_numbered k d n (rows ∷ more) e h = (
  record { dim = e; rows = let g : n + 0 + 1 ≡ n + 1 = omega arith in h 0 (omega arith) ∙ ap (star k.facets) g },
  each_numbered k d (n + 1) more e (λ i l. let g : n + suc i + 1 ≡ n + 1 + i + 1 = omega arith in h (suc i) (omega (arith, l)) ∙ ap (star k.facets) g),
)

-- the stars of a complex, one by one
pub listed_stars : (k : ComplexView) (m : StarList) → IsStarListOf k m → AreStarsOf k (all_stars m)
listed_stars k m h = record {
  complex = h.complex;
  rising = rising_numbered m.dim m.stars;
  each = each_numbered k m.dim 0 m.stars h.dim (λ i l. let e : (i + 1) - 1 ≡ i = omega arith in let g : i + 1 ≡ 0 + i + 1 = omega arith in ap (λ j. get_or m.stars j []) (sym e) ∙ h.stars (i + 1) (omega arith) (omega (arith, l)) ∙ ap (star k.facets) g);
}

-- labels of a face that are places have their stars
held_above : (m : StarList) (low : ℕ) (xs : List ℕ) → Above nat_cmp low xs → AllByRecursion (λ x. x ≤ places_in m) xs → holds (vertices (all_stars m)) xs ≡ true
held_above m low [] a h = refl
held_above m low (x ∷ xs) a h = both_true (has_numbered m.dim 0 m.stars x (let l : low < x = less_cmp low x a.0 in omega (arith, l)) (omega (arith, h.0))) (held_above m low xs a.1 h.1)

pub has_places : (m : StarList) (f : Flip) → OfFaces f → OnPlaces m f → HasLabels (all_stars m) f
has_places m f faces h = record {
  first = held_above m 0 f.a (above_head nat_cmp 0 f.a faces.first.rising) h.first;
  second = held_above m 0 f.b (above_head nat_cmp 0 f.b faces.second.rising) h.second;
}
