-- What keeps a complex from being led to the boundary of a simplex.
use Rattle.std.specs.Prelude.{◌≡◌, ◌≢◌, List}
use Rattle.std.specs.List.{AllByRecursion}
use lib.IntN.{ℤ, pos, ◌+ℤ◌}
use Rattle.complex_core.specs.Complexes.{ComplexView, IsComplex}
use Rattle.face_counts.specs.Eulers.{euler, power}
use Rattle.pseudo_test.specs.Ridges.{Closed, IsLeastOther}
use Rattle.pseudo_test.specs.Chains.{StronglyConnected, IsApart}
use Rattle.orient_test.specs.Signs.{Orientable}
use Rattle.flip_rules.specs.declared.flip.Flip.{Flip}
use Rattle.flip_rules.specs.Flips.{OfFaces}
use Rattle.flip_rules.specs.Boundaries.{IsBoundary}
use Rattle.flip_rules.specs.Certificates.{SphereCert}
use Rattle.flip_laws.specs.declared.obstacle.Obstacle.{Obstacle}
use Rattle.flip_laws.specs.declared.obstacle.Obstacle.TheVariants as obstacle

-- the Euler characteristic of the sphere of this dimension, 1 + (-1)^d
abbrev pub sphere_euler : ComplexView → ℤ
sphere_euler k = pos 1 +ℤ power k.dim

-- what the boundary of a simplex is, and so every complex that flips lead to one
pub record LooksLikeSphere (k : ComplexView) : Type 0 where
  pub closed : Closed k.facets
  pub strong : StronglyConnected k.facets
  pub euler : euler k.facets ≡ sphere_euler k
  pub orientable : Orientable k.facets

-- the first of these four facts that the complex lacks
abbrev pub IsObstacle : ComplexView → Obstacle → Type 0
IsObstacle k (obstacle.NotClosed r) = IsLeastOther k.facets r.face r.count
IsObstacle k (obstacle.NotStrong a) = Closed k.facets × IsApart k.facets a.first a.other
IsObstacle k (obstacle.Euler n) = Closed k.facets × StronglyConnected k.facets × (n ≡ euler k.facets) × (n ≢ sphere_euler k)
IsObstacle k obstacle.NotOrientable = Closed k.facets × StronglyConnected k.facets × (euler k.facets ≡ sphere_euler k) × (Orientable k.facets → ⊥)

-- no flips, each legal in its turn, lead from the complex to the boundary of a simplex
abbrev pub NeverReaches : ComplexView → Type 0
NeverReaches k = (flips : List Flip) → AllByRecursion OfFaces flips → SphereCert k flips → ⊥

abbrev pub BoundaryLooks : Type 0
BoundaryLooks = (k : ComplexView) → IsBoundary k → LooksLikeSphere k

abbrev pub ReachingLooks : Type 0
ReachingLooks = (k : ComplexView) (flips : List Flip) → IsComplex k → AllByRecursion OfFaces flips → SphereCert k flips → LooksLikeSphere k
