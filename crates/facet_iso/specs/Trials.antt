-- What the ordered image of K's least facet makes of a map from K to L.
use Rattle.std.specs.Prelude.{◌≡◌, ◌≢◌, ◌<◌, ◌+◌, true, ℕ, Bool, List, [], length, map, nat_eq, is_some, if◌then◌else◌, Option, Some, None, MatchOption}
use Rattle.std.proofs.Common.{get_or}
use Rattle.std.specs.List.{list_any}
use Rattle.complex_core.specs.Labels.{has}
use Rattle.complex_core.specs.Complexes.{ComplexView, is_facet}
use Rattle.complex_core.specs.Maps.{at, face_image, used}
use Rattle.facet_iso.specs.Walks.{IsStep}
use Rattle.facet_iso.specs.declared.walk.Step.{Step}
use Rattle.facet_iso.specs.Isomorphisms.{Takes, least_facet, ordered_image}

-- no map with this ordered image takes K to L
abbrev pub NoneOrdered : ComplexView → ComplexView → List ℕ → Type 0
NoneOrdered k l order = (m : List (ℕ × ℕ)) → Takes k l m → ordered_image k m ≡ order → ⊥

-- a map on exactly the used labels of K with this ordered image
pub record IsOrdered (k l : ComplexView) (order : List ℕ) (m : List (ℕ × ℕ)) : Type 0 where
  pub takes : Takes k l m
  pub labels : map (λ p. p.0) m ≡ used k.facets
  pub ordered : ordered_image k m ≡ order

-- ---- images of labels as far as they are known

-- the image of a label, or 0
abbrev pub image_in : (ℕ → Option ℕ) → ℕ → ℕ
image_in images x = known (images x)
  where
    known : Option ℕ → ℕ
    known None = 0
    known (Some y) = y

abbrev pub ArePositive : (ℕ → Option ℕ) → Type 0
ArePositive images = (x y : ℕ) → images x ≡ Some y → 0 < y

-- a map of labels has these images
abbrev pub Agrees : (ℕ → ℕ) → (ℕ → Option ℕ) → Type 0
Agrees h images = (x y : ℕ) → images x ≡ Some y → h x ≡ y

-- one more image
abbrev pub IsGiven : (ℕ → Option ℕ) → ℕ → ℕ → (ℕ → Option ℕ) → Type 0
IsGiven old label image new = (x : ℕ) → new x ≡ (if nat_eq label x then Some image else old x)

-- what is known when the images of some of the facets that a walk reaches were found
pub record IsSpread (k l : ComplexView) (order : List ℕ) (reached : List (List ℕ)) (count : ℕ) (images : ℕ → Option ℕ) (faces : List (List ℕ)) : Type 0 where
  pub known : (j x : ℕ) → j < count → has (get_or reached j []) x ≡ true → is_some (images x) ≡ true
  pub positive : ArePositive images
  pub starts : map (image_in images) (least_facet k) ≡ order
  pub agrees : (m : List (ℕ × ℕ)) → Takes k l m → ordered_image k m ≡ order → Agrees (at m) images
  pub onto : (m : List (ℕ × ℕ)) → Takes k l m → ordered_image k m ≡ order → (j : ℕ) → j < count → get_or faces j [] ≡ face_image m (get_or reached j [])

-- a step of a walk over K from one of the facets whose images were found to the next one
pub record IsNext (k : ComplexView) (reached faces : List (List ℕ)) (step : Step) : Type 0 where
  pub begins : get_or reached 0 [] ≡ least_facet k
  pub facets : (f : List ℕ) → is_facet reached f ≡ true → is_facet k.facets f ≡ true
  pub inside : length faces < length reached
  pub position : ℕ
  pub here : length faces ≡ position + 1
  pub leads : IsStep reached position step

-- the images of all used labels, which every map with this ordered image has
pub record AreImages (k l : ComplexView) (order : List ℕ) (images : ℕ → Option ℕ) : Type 0 where
  pub all : (x : ℕ) → has (used k.facets) x ≡ true → is_some (images x) ≡ true
  pub positive : ArePositive images
  pub starts : map (image_in images) (least_facet k) ≡ order
  pub agrees : (m : List (ℕ × ℕ)) → Takes k l m → ordered_image k m ≡ order → Agrees (at m) images

-- ---- neighbours

-- whether a run of incidences has one with this label
abbrev pub leads_to : List (List ℕ × ℕ) → ℕ → Bool
leads_to run y = list_any (λ s. nat_eq s.1 y) run

-- a label of a run other than this one, or there is none
abbrev pub IsAcross : List (List ℕ × ℕ) → ℕ → Option ℕ → Type 0
IsAcross run x result = MatchOption result ((y : ℕ) → leads_to run y ≡ true → y ≡ x) (λ y. (y ≢ x) × (leads_to run y ≡ true))
