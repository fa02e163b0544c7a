-- The tests for what a call asks, against what they tell.
use Rattle.std.proofs.Common.{◌≡◌, ℕ, ◌≤◌, Bool, true, false, nat_eq, nat_le, ◌||◌, ◌&&◌, IsTrue, List, [], ◌∷◌, sym, ◌∙◌, ap, refl, arith}
use Rattle.std.specs.List.{list_any, list_all, AllByRecursion}
use Rattle.std.specs.Cmp.{first_so, second_so}
use Rattle.std.specs.Cmp.Derive.{both_true}
use Rattle.std.proofs.lemmas.Bool.Decides.{nat_tests}
use Rattle.complex_core.specs.Labels.{has, holds}
use Rattle.complex_core.specs.Complexes.{ComplexView}
use Rattle.complex_core.proofs.Laws.{listed, passes_listed, each_listed, each_has}
use Rattle.flip_rules.specs.declared.flip.Flip.{Flip}
use Rattle.stars.specs.StarViews.{KeptStar, StarList, shown, UsesUpTo, vertices, places_in, HasLabels, OnPlaces}
use Rattle.stars.proofs.Mapping.{uses_of, uses_from, has_bound}
use Rattle.std.proofs.lemmas.Bool.{le-leb}

le_is : (x n : ℕ) → nat_le x n ≡ true → x ≤ n
le_is x n h = grind (arith, nat_tests)

-- no label above n
abbrev up_to : ℕ → List ℕ → Bool
up_to n xs = list_all (λ x. nat_le x n) xs

each_up_to : (n : ℕ) (xs : List ℕ) → up_to n xs ≡ true → AllByRecursion (λ x. x ≤ n) xs
each_up_to n [] h = tt
each_up_to n (x ∷ xs) h = (le_is x n (first_so (nat_le x n) (up_to n xs) h), each_up_to n xs (second_so (nat_le x n) (up_to n xs) h))

up_to_each : (n : ℕ) (xs : List ℕ) → AllByRecursion (λ x. x ≤ n) xs → up_to n xs ≡ true
up_to_each n [] h = refl
up_to_each n (x ∷ xs) h = both_true (le-leb x n h.0) (up_to_each n xs h.1)

pub uses_told : (k : ComplexView) (n : ℕ) (facets : List (List ℕ)) (t : Bool) → facets ≡ k.facets → t ≡ list_all (λ f. list_all (λ x. nat_le x n) f) facets → (IsTrue t → UsesUpTo k n) × (UsesUpTo k n → IsTrue t)
uses_told k n facets t e r = (
  λ h. uses_from k n (λ f p l i. has_bound n f p (each_up_to n f (passes_listed (up_to n) facets f (sym r ∙ h) (ap (λ fs. listed fs f) e ∙ l))) i),
  λ h. r ∙ each_listed (up_to n) facets (λ f l. each_has (λ x. nat_le x n) f (λ p i. le-leb p n (uses_of k n f p h (ap (λ fs. listed fs f) (sym e) ∙ l) i))),
)

-- the two sides of a flip, one after the other
pub places_both : (m : StarList) (f : Flip) (n : ℕ) (s t : Bool) → n ≡ places_in m → s ≡ list_all (λ x. nat_le x n) f.a → t ≡ list_all (λ x. nat_le x n) f.b → s ≡ true → (IsTrue t → OnPlaces m f) × (OnPlaces m f → IsTrue t)
places_both m f n s t e es et h = (
  λ g. record {
    first = each_up_to (places_in m) f.a (ap (λ k. up_to k f.a) (sym e) ∙ sym es ∙ h);
    second = each_up_to (places_in m) f.b (ap (λ k. up_to k f.b) (sym e) ∙ sym et ∙ g);
  },
  λ g. et ∙ ap (λ k. up_to k f.b) e ∙ up_to_each (places_in m) f.b g.second,
)

pub places_first : (m : StarList) (f : Flip) (n : ℕ) (s : Bool) → n ≡ places_in m → s ≡ list_all (λ x. nat_le x n) f.a → s ≡ false → (IsTrue s → OnPlaces m f) × (OnPlaces m f → IsTrue s)
places_first m f n s e es h = (
  λ g. let c : true ≡ false = sym g ∙ h in cc,
  λ g. es ∙ ap (λ k. up_to k f.a) e ∙ up_to_each (places_in m) f.a g.first,
)

-- a star of a label, among the stars and among the vertices
pub star_there : (near : List KeptStar) (x : ℕ) → list_any (λ s. nat_eq s.star.vertex x) near ≡ has (vertices (shown near)) x
star_there [] x = refl
star_there (s ∷ near) x = ap (λ b. nat_eq s.star.vertex x || b) (star_there near x)

stars_there : (near : List KeptStar) (xs : List ℕ) → list_all (λ x. list_any (λ s. nat_eq s.star.vertex x) near) xs ≡ holds (vertices (shown near)) xs
stars_there near [] = refl
stars_there near (x ∷ xs) = λ i. star_there near x i && stars_there near xs i

pub labels_both : (near : List KeptStar) (f : Flip) (s t : Bool) → s ≡ list_all (λ x. list_any (λ r. nat_eq r.star.vertex x) near) f.a → t ≡ list_all (λ x. list_any (λ r. nat_eq r.star.vertex x) near) f.b → s ≡ true → (IsTrue t → HasLabels (shown near) f) × (HasLabels (shown near) f → IsTrue t)
labels_both near f s t es et h = (
  λ g. record { first = sym (stars_there near f.a) ∙ sym es ∙ h; second = sym (stars_there near f.b) ∙ sym et ∙ g },
  λ g. et ∙ stars_there near f.b ∙ g.second,
)

pub labels_first : (near : List KeptStar) (f : Flip) (s : Bool) → s ≡ list_all (λ x. list_any (λ r. nat_eq r.star.vertex x) near) f.a → s ≡ false → (IsTrue s → HasLabels (shown near) f) × (HasLabels (shown near) f → IsTrue s)
labels_first near f s es h = (
  λ g. let c : true ≡ false = sym g ∙ h in cc,
  λ g. es ∙ stars_there near f.a ∙ g.first,
)
