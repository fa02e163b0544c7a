-- What a legal flip keeps of a complex, in both directions, and so every replay.
use Rattle.std.specs.Prelude.{◌≡◌, ◌↔◌, ℕ, List, nat_eq, filter, map, Some}
use Rattle.std.specs.List.{AllByRecursion, flat_map}
use Rattle.complex_core.specs.Labels.{without, face_cmp}
use Rattle.complex_core.specs.Rising.{rising}
use Rattle.complex_core.specs.Complexes.{ComplexView, IsComplex}
use Rattle.face_counts.specs.Eulers.{euler}
use Rattle.pseudo_test.specs.Ridges.{count, Closed, Thin}
use Rattle.pseudo_test.specs.Chains.{StronglyConnected}
use Rattle.orient_test.specs.Signs.{Orientable}
use Rattle.flip_rules.specs.declared.flip.Flip.{Flip}
use Rattle.flip_rules.specs.Flips.{OfFaces, replay}

-- the ridges, rising, each once
abbrev pub ridges : List (List ℕ) → List (List ℕ)
ridges facets = rising face_cmp (flat_map (λ f. map (λ x. without f x) f) facets)

-- those of them that lie in one facet
abbrev pub boundary : List (List ℕ) → List (List ℕ)
boundary facets = filter (λ r. nat_eq (count facets r) 1) (ridges facets)

-- the one complex has each of these facts exactly where the other has it
pub record Keeps (k l : ComplexView) : Type 0 where
  pub dim : k.dim ≡ l.dim
  pub euler : euler k.facets ≡ euler l.facets
  pub closed : Closed k.facets ↔ Closed l.facets
  pub thin : Thin k.facets ↔ Thin l.facets
  pub boundary : boundary k.facets ≡ boundary l.facets
  pub strong : StronglyConnected k.facets ↔ StronglyConnected l.facets
  pub orientable : Orientable k.facets ↔ Orientable l.facets

-- flips one after another lead from a complex to a complex, and keep these facts
abbrev pub ReplayKeeps : Type 0
ReplayKeeps = (k l : ComplexView) (flips : List Flip) → IsComplex k → AllByRecursion OfFaces flips → replay k flips ≡ Some l → IsComplex l × Keeps k l
