-- Ridges, and in how many facets each lies.
use Rattle.std.specs.Prelude.{◌≡◌, ◌≢◌, true, ℕ, ◌≤◌, List, length}
use Rattle.std.specs.declared.cmp.Ordering.TheVariants.{Less}
use Rattle.complex_core.specs.Labels.{has, without, face_cmp}
use Rattle.complex_core.specs.Complexes.{over, is_facet}

-- a facet less one of its labels
pub record IsRidge (facets : List (List ℕ)) (ridge : List ℕ) : Type 0 where
  pub facet : List ℕ
  pub label : ℕ
  pub there : is_facet facets facet ≡ true
  pub used : has facet label ≡ true
  pub is : ridge ≡ without facet label

-- in how many facets a set lies
abbrev pub count : List (List ℕ) → List ℕ → ℕ
count facets set = length (over facets set)

-- each ridge lies in two facets
pub record Closed (facets : List (List ℕ)) : Type 0 where
  pub two : (r : List ℕ) → IsRidge facets r → count facets r ≡ 2

-- each ridge lies in at most two facets
pub record Thin (facets : List (List ℕ)) : Type 0 where
  pub at_most : (r : List ℕ) → IsRidge facets r → count facets r ≤ 2

-- the least ridge that doesn't lie in two facets, and in how many it lies
pub record IsLeastOther (facets : List (List ℕ)) (ridge : List ℕ) (number : ℕ) : Type 0 where
  pub is : IsRidge facets ridge
  pub counted : count facets ridge ≡ number
  pub other : number ≢ 2
  pub least : (r : List ℕ) → IsRidge facets r → face_cmp r ridge ≡ Less → count facets r ≡ 2
