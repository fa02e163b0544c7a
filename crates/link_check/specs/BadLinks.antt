-- Faces whose links lack a fact of a sphere, and the least of them.
use Rattle.std.specs.Prelude.{◌≡◌, ◌≢◌, true, ℕ, ◌<◌, ◌≤◌, ◌⊎◌, List, length}
use Rattle.std.specs.declared.cmp.Ordering.TheVariants.{Less}
use Rattle.complex_core.specs.Labels.{IsFace, face_cmp}
use Rattle.complex_core.specs.Complexes.{ComplexView, is_face}
use Rattle.complex_core.specs.Links.{link}
use Rattle.face_counts.specs.Eulers.{euler}
use Rattle.pseudo_test.specs.Chains.{StronglyConnected, IsApart}
use Rattle.flip_laws.specs.Obstacles.{sphere_euler}
use Rattle.link_check.specs.declared.bad.LinkFact.{LinkFact}
use Rattle.link_check.specs.declared.bad.LinkFact.TheVariants as fact
use Rattle.link_check.specs.declared.bad.BadLink.{BadLink}

-- a face with 1 to d labels
pub record HasLink (k : ComplexView) (s : List ℕ) : Type 0 where
  pub labels : IsFace s
  pub face : is_face k.facets s ≡ true
  pub proper : length s ≤ k.dim

-- the Euler characteristic of a sphere, and strongly connected from dimension 1 on
pub record IsGoodLink (l : ComplexView) : Type 0 where
  pub euler : euler l.facets ≡ sphere_euler l
  pub strong : 1 ≤ l.dim → StronglyConnected l.facets

-- the first of these facts that a link lacks
abbrev pub Lacks : ComplexView → LinkFact → Type 0
Lacks l (fact.Euler n) = (n ≡ euler l.facets) × (n ≢ sphere_euler l)
Lacks l (fact.Split a) = (euler l.facets ≡ sphere_euler l) × (1 ≤ l.dim) × IsApart l.facets a.first a.other

-- fewer labels, or as many and less
abbrev pub Before : List ℕ → List ℕ → Type 0
Before s t = (length s < length t) ⊎ ((length s ≡ length t) × (face_cmp s t ≡ Less))

-- the link of each face that has one is good
pub record NoneIsBad (k : ComplexView) : Type 0 where
  pub good : (s : List ℕ) → HasLink k s → IsGoodLink (link k s)

-- the first face whose link isn't good, and what its link lacks
pub record IsLeastBad (k : ComplexView) (bad : BadLink) : Type 0 where
  pub has : HasLink k bad.face
  pub lacks : Lacks (link k bad.face) bad.fact
  pub least : (s : List ℕ) → HasLink k s → Before s bad.face → IsGoodLink (link k s)
