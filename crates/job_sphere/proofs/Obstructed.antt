-- A complex has one first obstacle, or none.
use Rattle.std.proofs.Common.{◌≡◌, ap, sym, ◌∙◌, refl}
use Rattle.complex_core.specs.Complexes.{ComplexView}
use Rattle.flip_laws.specs.Obstacles.{IsObstacle, LooksLikeSphere}
use Rattle.flip_laws.specs.declared.obstacle.Obstacle.{Obstacle}
use Rattle.flip_laws.specs.declared.obstacle.Obstacle.TheVariants as obstacle
use Rattle.job_answer.specs.Lines.{euler_line}
use Rattle.job_answer.proofs.Describing.{same_ridge_line, not_closed, same_apart_line, not_strong}
use Rattle.job_sphere.specs.Texts.{obstacle_line}

-- what looks like a sphere has no obstacle
pub no_obstacle : (k : ComplexView) (o : Obstacle) → LooksLikeSphere k → IsObstacle k o → ⊥
no_obstacle k (obstacle.NotClosed r) l h = not_closed k.facets r.face r.count l.closed h
no_obstacle k (obstacle.NotStrong a) l h = not_strong k.facets a.first a.other l.strong h.1
no_obstacle k (obstacle.Euler n) l h = h.3 (h.2 ∙ l.euler)
no_obstacle k obstacle.NotOrientable l h = h.3 l.orientable

pub same_line : (k : ComplexView) (o p : Obstacle) → IsObstacle k o → IsObstacle k p → obstacle_line o ≡ obstacle_line p
same_line k (obstacle.NotClosed r) (obstacle.NotClosed s) a b = same_ridge_line k.facets r.face s.face r.count s.count a b
same_line k (obstacle.NotClosed r) (obstacle.NotStrong y) a b = absurd (not_closed k.facets r.face r.count b.0 a)
same_line k (obstacle.NotClosed r) (obstacle.Euler n) a b = absurd (not_closed k.facets r.face r.count b.0 a)
same_line k (obstacle.NotClosed r) obstacle.NotOrientable a b = absurd (not_closed k.facets r.face r.count b.0 a)
same_line k (obstacle.NotStrong x) (obstacle.NotClosed s) a b = absurd (not_closed k.facets s.face s.count a.0 b)
same_line k (obstacle.NotStrong x) (obstacle.NotStrong y) a b = same_apart_line k.facets x.first x.other y.first y.other a.1 b.1
same_line k (obstacle.NotStrong x) (obstacle.Euler n) a b = absurd (not_strong k.facets x.first x.other b.1 a.1)
same_line k (obstacle.NotStrong x) obstacle.NotOrientable a b = absurd (not_strong k.facets x.first x.other b.1 a.1)
same_line k (obstacle.Euler m) (obstacle.NotClosed s) a b = absurd (not_closed k.facets s.face s.count a.0 b)
same_line k (obstacle.Euler m) (obstacle.NotStrong y) a b = absurd (not_strong k.facets y.first y.other a.1 b.1)
same_line k (obstacle.Euler m) (obstacle.Euler n) a b = ap euler_line (a.2 ∙ sym b.2)
same_line k (obstacle.Euler m) obstacle.NotOrientable a b = absurd (a.3 (a.2 ∙ b.2))
same_line k obstacle.NotOrientable (obstacle.NotClosed s) a b = absurd (not_closed k.facets s.face s.count a.0 b)
same_line k obstacle.NotOrientable (obstacle.NotStrong y) a b = absurd (not_strong k.facets y.first y.other a.1 b.1)
same_line k obstacle.NotOrientable (obstacle.Euler n) a b = absurd (b.3 (b.2 ∙ a.2))
same_line k obstacle.NotOrientable obstacle.NotOrientable a b = refl
