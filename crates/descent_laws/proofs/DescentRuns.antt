-- The descent by the best flips.
use Rattle.std.proofs.Common.{◌≡◌, [], ◌∷◌, length, Some, sym, ◌∙◌, ap, refl, subst, arith}
use Rattle.complex_core.specs.Complexes.{ComplexView}
use Rattle.flip_rules.specs.Flips.{flipped}
use Rattle.flip_rules.specs.declared.flip.Flip.{Flip}
use Rattle.flip_rules.proofs.Replays.{replay_legal}
use Rattle.descent_laws.specs.Descents.{IsMinimal, IsDescent}
use Rattle.descent_laws.specs.Laws.{DescentIsOne, DescentDescends, Descends}
use Rattle.descent_laws.proofs.Reducing.{best_is_one}
use Rattle.descent_laws.proofs.Falling.{flip_falls}

pub descent_is_one : DescentIsOne
descent_is_one k m n [] [] p q = (refl, p.0 ∙ sym q.0)
descent_is_one k m n [] (g ∷ gs) p q = absurd (p.1.none g q.0.reduces)
descent_is_one k m n (f ∷ fs) [] p q = absurd (q.1.none f p.0.reduces)
descent_is_one k m n (f ∷ fs) (g ∷ gs) p q =
    let e : f ≡ g = best_is_one k f g p.0 q.0 in
    let P : Flip → Type 0 = λ h. IsDescent (flipped k h.a h.b) gs n in
    let r : (fs ≡ gs) × (m ≡ n) = descent_is_one (flipped k f.a f.b) m n fs gs p.1 (subst P (sym e) q.1) in
    (λ i. e i ∷ r.0 i, r.1)

pub descent_descends : DescentDescends
descent_descends k m [] d = let P : ComplexView → Type 0 = λ l. IsMinimal l in record {
  replays = ap Some (sym d.0);
  faces = tt;
  minimal = subst P (sym d.0) d.1;
  falls = omega (arith, ap (λ l. length l.facets) d.0);
}
descent_descends k m (f ∷ fs) d =
    let r : Descends (flipped k f.a f.b) fs m = descent_descends (flipped k f.a f.b) m fs d.1 in
    record {
      replays = replay_legal k f fs d.0.reduces.legal ∙ r.replays;
      faces = (d.0.reduces.faces, r.faces);
      minimal = r.minimal;
      falls = omega (arith, r.falls, flip_falls k f d.0.reduces);
    }
