-- What leads to the boundary of a simplex looks like one.
use Rattle.std.proofs.Common.{◌≡◌, ℕ, true, List, Option, None, Some, Result, Ok, Err, sym, ◌∙◌, ap, subst}
use Rattle.std.specs.Prelude.{IfOk, IfSome, MatchOption}
use Rattle.std.specs.List.Sorted.{IsStrictlySortedBy}
use Rattle.std.specs.Ordering.{nat_cmp}
use lib.IntN.{pos, ◌+ℤ◌}
use Rattle.complex_core.specs.Labels.{has}
use Rattle.complex_core.specs.Complexes.{ComplexView, IsComplex}
use Rattle.complex_core.proofs.Sets.{above_tail}
use Rattle.face_counts.specs.Eulers.{euler, power}
use Rattle.pseudo_test.specs.Ridges.{Closed}
use Rattle.pseudo_test.specs.Chains.{StronglyConnected}
use Rattle.orient_test.specs.Signs.{Orientable}
use Rattle.flip_laws.specs.declared.obstacle.Obstacle.{Obstacle}
use Rattle.flip_laws.specs.declared.obstacle.Obstacle.TheVariants as obstacle
use Rattle.flip_laws.specs.Keeping.{Keeps}
use Rattle.flip_laws.specs.Obstacles.{LooksLikeSphere, IsObstacle, NeverReaches, BoundaryLooks, ReachingLooks}
use Rattle.flip_laws.proofs.Simplices.{simplex_boundary, closed_of, strong_of, signs_of, orientation_of}
use Rattle.flip_laws.proofs.SimplexEuler.{euler_of, some_label, sphere_number}
use Rattle.flip_laws.proofs.Replays.{replay_keeps}

-- the four facts of a boundary of a simplex
pub boundary_looks : BoundaryLooks
boundary_looks k b =
    let s : IsStrictlySortedBy nat_cmp b.0 = above_tail nat_cmp 0 b.0 b.1.rises in
    let x : (x : ℕ) × (has b.0 x ≡ true) = some_label b.0 k.dim b.1.many in
    let C : List (List ℕ) → Type 0 = λ fs. Closed fs in
    let S : List (List ℕ) → Type 0 = λ fs. StronglyConnected fs in
    let O : List (List ℕ) → Type 0 = λ fs. Orientable fs in
    record {
      closed = subst C (sym b.1.all) (closed_of b.0 s);
      strong = subst S (sym b.1.all) (strong_of b.0 s);
      euler = ap euler b.1.all ∙ sphere_number (euler (simplex_boundary b.0)) b.0 k.dim b.1.many (euler_of b.0 s x.0 x.1);
      orientable = subst O (sym b.1.all) (record { signs = signs_of b.0 s; is = orientation_of b.0 s });
    }

looks_back : (k l : ComplexView) → Keeps k l → LooksLikeSphere l → LooksLikeSphere k
looks_back k l p q = record {
  closed = p.closed.1 q.closed;
  strong = p.strong.1 q.strong;
  euler = p.euler ∙ q.euler ∙ ap (λ d. pos 1 +ℤ power d) (sym p.dim);
  orientable = p.orientable.1 q.orientable;
}

pub reaching_looks : ReachingLooks
reaching_looks k flips h fs c = let p : IsComplex c.end × Keeps k c.end = replay_keeps k c.end flips h fs c.replays in looks_back k c.end p.1 (boundary_looks c.end c.boundary)

-- an obstacle contradicts one of the four facts
excludes : (k : ComplexView) (o : Obstacle) → IsObstacle k o → LooksLikeSphere k → ⊥
excludes k (obstacle.NotClosed r) h l = h.other (sym h.counted ∙ l.closed.two _ h.is)
excludes k (obstacle.NotStrong a) h l = h.1.apart (l.strong.joined _ _ h.1.begins.there h.1.there)
excludes k (obstacle.Euler n) h l = h.3 (h.2 ∙ l.euler)
excludes k obstacle.NotOrientable h l = h.3 l.orientable

-- so where there is one, no flips lead to a boundary
pub sound_obstacle : {E : Type 0} (k : ComplexView) (r : Result (Option Obstacle) E) → IsComplex k → IfOk r (λ o. MatchOption o (LooksLikeSphere k) (IsObstacle k)) → IfOk r (λ o. IfSome o (λ _. NeverReaches k))
sound_obstacle k (Ok (Some o)) c h = λ flips fs s. excludes k o h (reaching_looks k flips c fs s)
sound_obstacle k (Ok None) c h = tt
sound_obstacle k (Err e) c h = tt
