-- What a search for the least map from K to L knows of them, and what its parts find.
use Rattle.std.specs.Prelude.{◌≡◌, ◌≢◌, ◌≤◌, ◌<◌, ◌++◌, true, ℕ, Bool, List, length, map, nat_eq}
use Rattle.std.proofs.Common.{get_or}
use Rattle.std.specs.List.Sorted.{IsStrictlySortedBy}
use Rattle.std.specs.Ordering.{nat_cmp}
use Rattle.std.specs.Cmp.Lexicographic.{slice_cmp}
use Rattle.std.specs.declared.cmp.Ordering.TheVariants.{Greater}
use Rattle.complex_core.specs.Rising.{rising}
use Rattle.complex_core.specs.Labels.{holds}
use Rattle.complex_core.specs.Complexes.{ComplexView, IsComplex}
use Rattle.complex_core.specs.Maps.{face_image, used}
use Rattle.pseudo_test.specs.Ridges.{Thin}
use Rattle.pseudo_test.specs.Incidences.{incidence_cmp, incidences}
use Rattle.facet_iso.specs.Degrees.{HasDegrees}
use Rattle.facet_iso.specs.Isomorphisms.{Takes, least_facet, ordered_image}
use Rattle.facet_iso.specs.Walks.{IsWalk}
use Rattle.facet_iso.specs.declared.search.Search.{Search}
use Rattle.facet_iso.specs.declared.walk.Step.{Step}

-- of two complexes of one dimension
pub record IsSearch (k l : ComplexView) (s : Search) : Type 0 where
  pub first : IsComplex k
  pub second : IsComplex l
  pub dim : k.dim ≡ l.dim
  pub thin : Thin l.facets
  pub least : s.least ≡ least_facet k
  pub walk : IsWalk k s.steps.items
  pub first_degrees : HasDegrees k.facets s.first_degrees.items
  pub second_degrees : HasDegrees l.facets s.second_degrees.items
  pub incidences : s.incidences.items ≡ incidences l.facets

-- what its calls rest on, whatever the complexes are
pub record IsSound (s : Search) : Type 0 where
  pub first_degrees : length s.first_degrees.items ≡ 65536
  pub second_degrees : length s.second_degrees.items ≡ 65536
  pub earlier : (position : ℕ) (none : Step) → position < length s.steps.items → (get_or s.steps.items position none).from ≤ position
  pub rising : IsStrictlySortedBy incidence_cmp s.incidences.items

-- whether a label of K and one of L have one degree
abbrev pub alike : Search → ℕ → ℕ → Bool
alike s x y = nat_eq (get_or s.first_degrees.items x 0) (get_or s.second_degrees.items y 0)

-- different labels of a facet
pub record IsBegun (facet order : List ℕ) : Type 0 where
  pub within : holds facet order ≡ true
  pub differ : length (rising nat_cmp order) ≡ length order

-- this map takes K to L, and K's least facet to this one, and its ordered image begins like this
pub record Begins (k l : ComplexView) (facet begun : List ℕ) (m : List (ℕ × ℕ)) : Type 0 where
  pub takes : Takes k l m
  pub onto : face_image m (least_facet k) ≡ facet
  pub rest : List ℕ
  pub order : ordered_image k m ≡ begun ++ rest

abbrev pub NoneBegins : ComplexView → ComplexView → List ℕ → List ℕ → Type 0
NoneBegins k l facet begun = (m : List (ℕ × ℕ)) → Begins k l facet begun m → ⊥

-- the least of these maps, on exactly the used labels of K
pub record IsLeastBegun (k l : ComplexView) (facet begun : List ℕ) (m : List (ℕ × ℕ)) : Type 0 where
  pub begins : Begins k l facet begun m
  pub labels : map (λ p. p.0) m ≡ used k.facets
  pub least : (n : List (ℕ × ℕ)) → Begins k l facet begun n → slice_cmp nat_cmp (ordered_image k m) (ordered_image k n) ≢ Greater
