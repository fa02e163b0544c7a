-- What flips keep, one and many.
use Rattle.std.proofs.Common.{◌≡◌, ℕ, List, [], ◌∷◌, Some, Ok, sym, ◌∙◌, refl, subst}
use Rattle.complex_core.specs.Labels.{IsFace, union}
use Rattle.complex_core.specs.Complexes.{ComplexView, IsComplex}
use Rattle.flip_rules.specs.Flips.{broken_rule, flipped, replay}
use Rattle.flip_rules.proofs.Legal.{legal}
use Rattle.flip_rules.proofs.Replays.{first_flip, complex_flipped}
use Rattle.flip_laws.specs.Keeping.{Keeps, ReplayKeeps}
use Rattle.flip_laws.proofs.Exchange.{Exchange, turned, made_exchange}
use Rattle.flip_laws.proofs.RidgesKept.{closed_kept, thin_kept, boundary_kept}
use Rattle.flip_laws.proofs.ChainsKept.{strong_kept}
use Rattle.flip_laws.proofs.EulerKept.{euler_kept}
use Rattle.flip_laws.proofs.SignsKept.{orientable_kept}

keeps_none : (k : ComplexView) → Keeps k k
keeps_none k = record { dim = refl; euler = refl; closed = (λ c. c, λ c. c); thin = (λ c. c, λ c. c); boundary = refl; strong = (λ c. c, λ c. c); orientable = (λ c. c, λ c. c) }

keeps_on : (k l m : ComplexView) → Keeps k l → Keeps l m → Keeps k m
keeps_on k l m p q = record {
  dim = p.dim ∙ q.dim;
  euler = p.euler ∙ q.euler;
  closed = (λ c. q.closed.0 (p.closed.0 c), λ c. p.closed.1 (q.closed.1 c));
  thin = (λ c. q.thin.0 (p.thin.0 c), λ c. p.thin.1 (q.thin.1 c));
  boundary = p.boundary ∙ q.boundary;
  strong = (λ c. q.strong.0 (p.strong.0 c), λ c. p.strong.1 (q.strong.1 c));
  orientable = (λ c. q.orientable.0 (p.orientable.0 c), λ c. p.orientable.1 (q.orientable.1 c));
}

-- one legal flip
flip_keeps : (k : ComplexView) (a b : List ℕ) → IsComplex k → IsFace a → IsFace b → broken_rule k a b ≡ Ok tt → Keeps k (flipped k a b)
flip_keeps k a b h fa fb t =
    let e : Exchange k.facets (flipped k a b).facets a b (union a b) = made_exchange k a b h fa fb (legal k a b t) in
    let r : Exchange (flipped k a b).facets k.facets b a (union a b) = turned k.facets (flipped k a b).facets a b (union a b) e in
    record {
      dim = refl;
      euler = euler_kept k.facets (flipped k a b).facets a b (union a b) e;
      closed = (closed_kept k.facets (flipped k a b).facets a b (union a b) e, closed_kept (flipped k a b).facets k.facets b a (union a b) r);
      thin = (thin_kept k.facets (flipped k a b).facets a b (union a b) e, thin_kept (flipped k a b).facets k.facets b a (union a b) r);
      boundary = boundary_kept k.facets (flipped k a b).facets a b (union a b) e;
      strong = (strong_kept k.facets (flipped k a b).facets a b (union a b) e, strong_kept (flipped k a b).facets k.facets b a (union a b) r);
      orientable = (orientable_kept k.facets (flipped k a b).facets a b (union a b) e, orientable_kept (flipped k a b).facets k.facets b a (union a b) r);
    }

-- what a function that makes a flip has to show
pub flip_keeps_on : (k l : ComplexView) (a b : List ℕ) → IsComplex k → IsFace a → IsFace b → broken_rule k a b ≡ Ok tt → l ≡ flipped k a b → Keeps k l
flip_keeps_on k l a b h fa fb t e = let P : ComplexView → Type 0 = λ m. Keeps k m in subst P (sym e) (flip_keeps k a b h fa fb t)

pub replay_keeps : ReplayKeeps
replay_keeps k l [] h fs e = let p : k ≡ l = cc in let P : ComplexView → Type 0 = λ m. IsComplex m × Keeps k m in subst P p (h, keeps_none k)
replay_keeps k l (f ∷ flips) h fs e =
    let p : (broken_rule k f.a f.b ≡ Ok tt) × (replay (flipped k f.a f.b) flips ≡ Some l) = first_flip k l f flips e in
    let q : IsComplex l × Keeps (flipped k f.a f.b) l = replay_keeps (flipped k f.a f.b) l flips (complex_flipped k f.a f.b h fs.0.first fs.0.second p.0) fs.1 p.1 in
    (q.0, keeps_on k (flipped k f.a f.b) l (flip_keeps k f.a f.b h fs.0.first fs.0.second p.0) q.1)
