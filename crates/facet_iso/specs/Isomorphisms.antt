-- Maps that take one complex to another, and the least of them.
use Rattle.std.specs.Prelude.{◌≡◌, ◌≢◌, ℕ, true, List, [], map}
use Rattle.std.specs.Ordering.{nat_cmp, ordering_then}
use Rattle.std.specs.Cmp.Lexicographic.{slice_cmp}
use Rattle.std.specs.declared.cmp.Ordering.{Ordering}
use Rattle.std.specs.declared.cmp.Ordering.TheVariants.{Greater}
use Rattle.std.proofs.Common.{get_or}
use Rattle.complex_core.specs.Labels.{face_cmp}
use Rattle.complex_core.specs.Complexes.{ComplexView}
use Rattle.complex_core.specs.Maps.{IsMap, at, face_image, renamed, takes_all, used}
use Rattle.pseudo_test.specs.Ridges.{Thin}
use Rattle.pseudo_test.specs.Chains.{StronglyConnected}

-- each used label of K has a pair, and the images of the facets of K are the facets of L
pub record Takes (k l : ComplexView) (m : List (ℕ × ℕ)) : Type 0 where
  pub is_map : IsMap m
  pub all : takes_all m k.facets ≡ true
  pub image : renamed k m ≡ l

-- no map takes K to L
abbrev pub NoMap : ComplexView → ComplexView → Type 0
NoMap k l = (m : List (ℕ × ℕ)) → Takes k l m → ⊥

-- facets rise, so the least one is the first
abbrev pub least_facet : ComplexView → List ℕ
least_facet k = get_or k.facets 0 []

-- the images of the labels of K's least facet, in the rising order of these labels
abbrev pub ordered_image : ComplexView → List (ℕ × ℕ) → List ℕ
ordered_image k m = map (at m) (least_facet k)

-- by the facets that K's least facet becomes, and by its ordered images where these are equal
abbrev pub map_cmp : ComplexView → List (ℕ × ℕ) → List (ℕ × ℕ) → Ordering
map_cmp k m n = ordering_then (face_cmp (face_image m (least_facet k)) (face_image n (least_facet k))) (slice_cmp nat_cmp (ordered_image k m) (ordered_image k n))

-- a map from K to L on exactly the used labels of K, and none is less
pub record IsLeastMap (k l : ComplexView) (m : List (ℕ × ℕ)) : Type 0 where
  pub takes : Takes k l m
  pub labels : map (λ p. p.0) m ≡ used k.facets
  pub least : (n : List (ℕ × ℕ)) → Takes k l n → map_cmp k m n ≢ Greater

-- each least map from K to L is this one
abbrev pub IsOneLeastMap : ComplexView → ComplexView → List (ℕ × ℕ) → Type 0
IsOneLeastMap k l m = (n : List (ℕ × ℕ)) → IsLeastMap k l n → n ≡ m

-- any two facets are joined, and each ridge lies in at most two facets: then the ordered image of one facet determines a map
pub record IsFit (k : ComplexView) : Type 0 where
  pub strong : StronglyConnected k.facets
  pub thin : Thin k.facets
