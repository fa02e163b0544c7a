-- A map of stars, and flips on it.
use Rattle.std.proofs.Common.{◌≡◌, ℕ, ◌+◌, ◌-◌, ◌^◌, ◌<◌, ◌≤◌, Bool, true, false, not, nat_eq, ◌||◌, ◌&&◌, List, [], ◌∷◌, ◌++◌, length, map, get_or, Result, Ok, Err, OnOk, OnErr, sym, ◌∙◌, ap, refl, subst, arith}
use Rattle.std.specs.List.{AllByRecursion, flat_map}
use Rattle.std.proofs.lemmas.Bool.{true≢false}
use Rattle.std.specs.Cmp.Lexicographic.{pointwise}
use Rattle.std.proofs.lemmas.Bool.Decides.{nat_tests}
use Rattle.std.proofs.lemmas.Cmp.{nat_cmp_total}
use Rattle.std.proofs.lemmas.List.{get_or-map, length-map}
use Rattle.complex_core.specs.Labels.{IsFace, has, holds, union, without}
use Rattle.complex_core.specs.Complexes.{ComplexView}
use Rattle.complex_core.specs.Maps.{used}
use Rattle.complex_core.proofs.Sets.{among-rising}
use Rattle.complex_core.proofs.Faces.{among-has}
use Rattle.complex_core.proofs.Laws.{listed, has-union, has-without, nat_eq_is, same_sets_is, same_set_itself, or_left, or_right}
use Rattle.flip_rules.specs.Flips.{flipped, join_boundary}
use Rattle.flip_rules.proofs.Links.{side_of, listed-flipped}
use Rattle.flip_rules.specs.declared.flip.Flip.{Flip}
use Rattle.flip_rules.specs.declared.flip.FlipFault.{FlipFault}
use Rattle.star_laws.specs.Stars.{star}
use Rattle.stars.specs.StarViews.{VertexStar, StarList, AreNumbered, UsesUpTo, numbered, all_stars, places_in, star_at, IsStarOf, AreStarsOf, IsStarListOf, HasLabels, OnPlaces}
use Rattle.stars.specs.FlipsHere.{star_flipped, stars_flipped}
use Rattle.stars.proofs.Finding.{each_at}
use Rattle.stars.proofs.Numbering.{numbered_at, listed_stars, has_places}
use Rattle.std.specs.Cmp.{first_so}

-- the stars that a map has, from its fields
pub items_are : (m : StarList) (dim : ℕ) (items : List VertexStar) → record { dim = dim; stars = map (λ (s : VertexStar). s.rows) items } ≡ m → AreNumbered dim items → items ≡ all_stars m
items_are m dim items view numbers = numbers ∙ ap all_stars view

pub shown_stars : (k : ComplexView) (m : StarList) (shown : List VertexStar) → shown ≡ all_stars m → IsStarListOf k m → AreStarsOf k shown
shown_stars k m shown e h = let P : List VertexStar → Type 0 = λ ss. AreStarsOf k ss in subst P (sym e) (listed_stars k m h)

pub shown_labels : (m : StarList) (f : Flip) (shown : List VertexStar) → shown ≡ all_stars m → IsFace f.a → IsFace f.b → OnPlaces m f → HasLabels shown f
shown_labels m f shown e fa fb h = let P : List VertexStar → Type 0 = λ ss. HasLabels ss f in subst P (sym e) (has_places m f (record { first = fa; second = fb }) h)

-- the star of a place
pub placed_star : (m : StarList) (shown : List VertexStar) (place : ℕ) (s : VertexStar) → shown ≡ all_stars m → 0 < place → place ≤ places_in m → s ≡ get_or shown (place - 1) s → s ≡ record { vertex = place; dim = m.dim; rows = star_at m place }
placed_star m shown place s e low high is = is ∙ ap (λ ss. get_or ss (place - 1) s) e ∙ numbered_at m.dim 0 place m.stars (place - 1) s (omega (arith, low, high)) (omega (arith, low))

-- ---- which labels are used

pub has_append : (xs ys : List ℕ) (p : ℕ) → has (xs ++ ys) p ≡ (has xs p || has ys p)
has_append [] ys p = refl
has_append (x ∷ xs) ys p = ap (λ b. nat_eq x p || b) (has_append xs ys p) ∙ assoc (nat_eq x p) (has xs p) (has ys p)
  where
    assoc : (a b c : Bool) → (a || (b || c)) ≡ ((a || b) || c)
    assoc true b c = refl
    assoc false b c = refl

pub has_bound : (n : ℕ) (xs : List ℕ) (p : ℕ) → AllByRecursion (λ x. x ≤ n) xs → has xs p ≡ true → p ≤ n
has_bound n [] p h t = absurd (true≢false (sym t))
has_bound n (x ∷ xs) p h t =
    elim (nat_eq x p) as (λ b. nat_eq x p ≡ b → (b || has xs p) ≡ true → p ≤ n) [
      | true ↦ λ e _. let g : x ≡ p = nat_eq_is x p e in omega (arith, g, h.0)
      | false ↦ λ _ r. has_bound n xs p h.1 r
    ] refl t

from_has : (n : ℕ) (xs : List ℕ) → ((p : ℕ) → has xs p ≡ true → p ≤ n) → AllByRecursion (λ x. x ≤ n) xs
from_has n [] h = tt
from_has n (x ∷ xs) h = (h x (or_left (nat_eq x x) (has xs x) (same x)), from_has n xs (λ p t. h p (or_right (nat_eq x p) (has xs p) t)))
  where
    same : (x : ℕ) → nat_eq x x ≡ true
    same x = grind (arith, nat_tests)

has_used : (fs : List (List ℕ)) (p : ℕ) → has (used fs) p ≡ has (flat_map (λ f. f) fs) p
has_used fs p = sym (among-has p (used fs)) ∙ among-rising nat_cmp_total p (flat_map (λ f. f) fs) ∙ among-has p (flat_map (λ f. f) fs)

-- a label of a listed set is used, and a used label is one of some listed set
has_listed : (fs : List (List ℕ)) (f : List ℕ) (p : ℕ) → listed fs f ≡ true → has f p ≡ true → has (flat_map (λ g. g) fs) p ≡ true
has_listed [] f p t h = absurd (true≢false (sym t))
has_listed (g ∷ fs) f p t h =
    has_append g (flat_map (λ g. g) fs) p ∙ elim (pointwise nat_eq g f) as (λ b. pointwise nat_eq g f ≡ b → (b || listed fs f) ≡ true → (has g p || has (flat_map (λ g. g) fs) p) ≡ true) [
      | true ↦ λ e _. or_left (has g p) (has (flat_map (λ g. g) fs) p) (ap (λ x. has x p) (same_sets_is g f e) ∙ h)
      | false ↦ λ _ r. or_right (has g p) (has (flat_map (λ g. g) fs) p) (has_listed fs f p r h)
    ] refl t

listed_has : (fs : List (List ℕ)) (p : ℕ) → has (flat_map (λ g. g) fs) p ≡ true → (f : List ℕ) × (listed fs f ≡ true) × (has f p ≡ true)
listed_has [] p t = absurd (true≢false (sym t))
listed_has (g ∷ fs) p t =
    elim (has g p) as (λ b. has g p ≡ b → (b || has (flat_map (λ g. g) fs) p) ≡ true → (f : List ℕ) × (listed (g ∷ fs) f ≡ true) × (has f p ≡ true)) [
      | true ↦ λ e _. (g, or_left (pointwise nat_eq g g) (listed fs g) (same_set_itself g), e)
      | false ↦ λ _ r. let h : (f : List ℕ) × (listed fs f ≡ true) × (has f p ≡ true) = listed_has fs p r in (h.0, or_right (pointwise nat_eq g h.0) (listed fs h.0) h.1, h.2)
    ] refl (sym (has_append g (flat_map (λ g. g) fs) p) ∙ t)

-- no facet has a label above n
pub uses_of : (k : ComplexView) (n : ℕ) (f : List ℕ) (p : ℕ) → UsesUpTo k n → listed k.facets f ≡ true → has f p ≡ true → p ≤ n
uses_of k n f p h t e = has_bound n (used k.facets) p h (has_used k.facets p ∙ has_listed k.facets f p t e)

pub uses_from : (k : ComplexView) (n : ℕ) → ((f : List ℕ) (p : ℕ) → listed k.facets f ≡ true → has f p ≡ true → p ≤ n) → UsesUpTo k n
uses_from k n h = from_has n (used k.facets) (λ p t. let r : (f : List ℕ) × (listed k.facets f ≡ true) × (has f p ≡ true) = listed_has k.facets p (sym (has_used k.facets p) ∙ t) in h r.0 p r.1 r.2)

pub either : (x y : Bool) (C : Type 0) → (x || y) ≡ true → (x ≡ true → C) → (y ≡ true → C) → C
either true y C h f g = f refl
either false y C h f g = g h

uses_flipped : (k : ComplexView) (f : Flip) (n : ℕ) → UsesUpTo k n → AllByRecursion (λ x. x ≤ n) f.a → AllByRecursion (λ x. x ≤ n) f.b → UsesUpTo (flipped k f.a f.b) n
uses_flipped k f n h ha hb = uses_from (flipped k f.a f.b) n (λ g p t e.
    either (listed k.facets g && not (holds g f.a)) (listed (join_boundary f.b f.a) g) (p ≤ n) (sym (listed-flipped k f.a f.b g) ∙ t)
    (λ r. uses_of k n g p h (first_so (listed k.facets g) (not (holds g f.a)) r) e)
    (λ r. let s : (x : ℕ) × (has f.a x ≡ true) × (g ≡ union f.b (without f.a x)) = side_of f.b f.a g r in
    either (has f.b p) (has (without f.a s.0) p) (p ≤ n) (sym (has-union f.b (without f.a s.0) p) ∙ ap (λ x. has x p) (sym s.2) ∙ e)
    (λ q. has_bound n f.b p hb q)
    (λ q. has_bound n f.a p ha (first_so (has f.a p) (not (nat_eq p s.0)) (sym (has-without f.a s.0 p) ∙ q)))))

-- ---- the map after a flip

numbered_flipped : (a b : List ℕ) (d n : ℕ) (stars : List (List (List ℕ))) → stars_flipped (numbered d n stars) a b ≡ numbered d n (map (λ (s : VertexStar). s.rows) (stars_flipped (numbered d n stars) a b))
numbered_flipped a b d n [] = refl
numbered_flipped a b d n (rows ∷ more) = ap (λ ss. star_flipped a b (record { vertex = n + 1; dim = d; rows = rows }) ∷ ss) (numbered_flipped a b d (n + 1) more)

still_numbered : (a b : List ℕ) (d : ℕ) (old : List VertexStar) → AreNumbered d old → AreNumbered d (stars_flipped old a b)
still_numbered a b d old e = let P : List VertexStar → Type 0 = λ ss. AreNumbered d (stars_flipped ss a b) in subst P (sym e) (numbered_flipped a b d 0 (map (λ (s : VertexStar). s.rows) old))

length-flipped : (a b : List ℕ) (old : List VertexStar) → length (stars_flipped old a b) ≡ length old
length-flipped a b old = length-map old (star_flipped a b)

pub kept_fields : (a b : List ℕ) (d : ℕ) (old new : List VertexStar) (r : Result (Unit {0}) FlipFault) → OnOk r (new ≡ stars_flipped old a b) → OnErr r (new ≡ old) → length old < 2 ^ 16 → AreNumbered d old → (length new < 2 ^ 16) × AreNumbered d new
kept_fields a b d old new (Ok u) ok err few numbers = let P : List VertexStar → Type 0 = λ ss. (length ss < 2 ^ 16) × AreNumbered d ss in subst P (sym ok) (omega (arith, few, length-flipped a b old), still_numbered a b d old numbers)
kept_fields a b d old new (Err e) ok err few numbers = let P : List VertexStar → Type 0 = λ ss. (length ss < 2 ^ 16) × AreNumbered d ss in subst P (sym err) (few, numbers)

-- numbered stars of a complex that uses no other labels are its map
pub map_of_stars : (k : ComplexView) (d : ℕ) (items : List VertexStar) → AreStarsOf k items → AreNumbered d items → d ≡ k.dim → UsesUpTo k (length items) → IsStarListOf k (record { dim = d; stars = map (λ (s : VertexStar). s.rows) items })
map_of_stars k d items h numbers dim uses = record {
  complex = h.complex;
  dim = dim;
  within = let P : ℕ → Type 0 = λ n. UsesUpTo k n in subst P (sym (length-map items (λ (s : VertexStar). s.rows))) uses;
  stars = λ p low high.
      let inside : p - 1 < length items = omega (arith, low, high, length-map items (λ (s : VertexStar). s.rows)) in
      let none : VertexStar = record { vertex = 0; dim = 0; rows = [] } in
      let s : VertexStar = get_or items (p - 1) none in
      let is : IsStarOf k s = each_at (IsStarOf k) items (p - 1) none h.each inside in
      let v : s.vertex ≡ p = ap (λ ss. (get_or ss (p - 1) none).vertex) numbers ∙ ap (λ (t : VertexStar). t.vertex) (numbered_at d 0 p (map (λ (t : VertexStar). t.rows) items) (p - 1) none (omega (arith, low, high)) (omega (arith, low))) in
      get_or-map (λ (t : VertexStar). t.rows) items (p - 1) none [] inside ∙ is.rows ∙ ap (star k.facets) v;
}

pub flipped_map : (k : ComplexView) (m : StarList) (f : Flip) (d : ℕ) (old new : List VertexStar) (r : Result (Unit {0}) FlipFault) → record { dim = d; stars = map (λ (s : VertexStar). s.rows) old } ≡ m → AreNumbered d old → OnOk r (new ≡ stars_flipped old f.a f.b) → OnOk r (AreStarsOf (flipped k f.a f.b) new) → IsStarListOf k m → OnPlaces m f → OnOk r (IsStarListOf (flipped k f.a f.b) (record { dim = d; stars = map (λ (s : VertexStar). s.rows) new }))
flipped_map k m f d old new (Err e) view numbers made stars h places = tt
flipped_map k m f d old new (Ok u) view numbers made stars h places =
    let few : length new ≡ places_in m = ap length made ∙ length-flipped f.a f.b old ∙ sym (length-map old (λ (s : VertexStar). s.rows)) ∙ ap places_in view in
    let N : List VertexStar → Type 0 = λ ss. AreNumbered d ss in
    let U : ℕ → Type 0 = λ n. UsesUpTo (flipped k f.a f.b) n in
    map_of_stars (flipped k f.a f.b) d new stars (subst N (sym made) (still_numbered f.a f.b d old numbers)) (ap (λ (n : StarList). n.dim) view ∙ h.dim) (subst U (sym few) (uses_flipped k f (places_in m) h.within places.first places.second))
