-- The incidences of facets: a facet told as a ridge and the label that the ridge lacks.
use Rattle.std.specs.Prelude.{◌≡◌, ℕ, List, map, filter, nat_eq}
use Rattle.std.specs.List.{flat_map, AllByRecursion}
use Rattle.std.specs.List.Sorted.{IsStrictlySortedBy}
use Rattle.std.specs.Ordering.{nat_cmp, ordering_then}
use Rattle.std.specs.Cmp.Lexicographic.{pointwise}
use Rattle.std.specs.declared.cmp.Ordering.{Ordering}
use Rattle.complex_core.specs.Labels.{with, without, face_cmp}
use Rattle.complex_core.specs.Rising.{rising}

-- by ridges, and by labels where these are equal
abbrev pub incidence_cmp : List ℕ × ℕ → List ℕ × ℕ → Ordering
incidence_cmp s t = ordering_then (face_cmp s.0 t.0) (nat_cmp s.1 t.1)

-- those of one facet
abbrev pub incidences_of : List ℕ → List (List ℕ × ℕ)
incidences_of f = map (λ x. (without f x, x)) f

-- the incidences of all facets, rising
abbrev pub incidences : List (List ℕ) → List (List ℕ × ℕ)
incidences facets = rising incidence_cmp (flat_map incidences_of facets)

-- those of one ridge
abbrev pub run_of : List (List ℕ × ℕ) → List ℕ → List (List ℕ × ℕ)
run_of incidences ridge = filter (λ s. pointwise nat_eq s.0 ridge) incidences

-- the facet whose incidence it is
abbrev pub facet_of : List ℕ × ℕ → List ℕ
facet_of s = with s.0 s.1

-- incidences of one ridge, rising
pub record IsRun (run : List (List ℕ × ℕ)) : Type 0 where
  pub ridge : List ℕ
  pub one : AllByRecursion (λ s. s.0 ≡ ridge) run
  pub rising : IsStrictlySortedBy incidence_cmp run
