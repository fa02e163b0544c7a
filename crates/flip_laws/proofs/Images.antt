-- A complex under another naming of its labels.
use Rattle.std.proofs.Common.{◌≡◌, ℕ, true, nat_eq, ◌||◌, List, [], ◌∷◌, map, sym, ◌∙◌, ap, refl}
use Rattle.std.specs.List.{list_all}
use Rattle.std.specs.Ordering.{nat_cmp}
use Rattle.complex_core.specs.Labels.{has, holds, face_cmp}
use Rattle.complex_core.specs.Rising.{rising}
use Rattle.complex_core.specs.Maps.{IsMap, takes, at, takes_all}
use Rattle.complex_core.proofs.Laws.{holds_each, listed, passes_listed}
use Rattle.complex_core.proofs.Images.{injective}
use Rattle.complex_core.proofs.Members.{passes_has}

-- the set of the images of labels
abbrev pub image : (ℕ → ℕ) → List ℕ → List ℕ
image m f = rising nat_cmp (map m f)

-- the rising list of the images of the facets
abbrev pub images : (ℕ → ℕ) → List (List ℕ) → List (List ℕ)
images m facets = rising face_cmp (map (λ f. image m f) facets)

-- different used labels have different images
pub record Renames (facets : List (List ℕ)) (m : ℕ → ℕ) : Type 0 where
  pub used : List ℕ
  pub all : (f : List ℕ) → listed facets f ≡ true → holds used f ≡ true
  pub one : (x y : ℕ) → has used x ≡ true → has used y ≡ true → m x ≡ m y → x ≡ y

has-firsts : (pairs : List (ℕ × ℕ)) (x : ℕ) → has (map (λ p. p.0) pairs) x ≡ takes pairs x
has-firsts [] x = refl
has-firsts (p ∷ pairs) x = ap (λ c. nat_eq p.0 x || c) (has-firsts pairs x)

-- a map that takes all labels of the facets renames them
pub map_renames : (pairs : List (ℕ × ℕ)) (facets : List (List ℕ)) → IsMap pairs → takes_all pairs facets ≡ true → Renames facets (at pairs)
map_renames pairs facets m all = record {
  used = map (λ p. p.0) pairs;
  all = λ f t. holds_each (map (λ p. p.0) pairs) f (λ z u. has-firsts pairs z ∙ passes_has (takes pairs) f z (passes_listed (λ g. list_all (takes pairs) g) facets f all t) u);
  one = λ x y t u e. injective pairs x y m.differ (sym (has-firsts pairs x) ∙ t) (sym (has-firsts pairs y) ∙ u) e;
}
