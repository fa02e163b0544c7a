-- When a flip that was made on stars can be taken back.
use Rattle.std.proofs.Common.{◌≡◌, ℕ, zero, suc, ◌≤◌, List, [], ◌∷◌, length, get_or, Ok, sym, ◌∙◌, ap, subst, arith}
use Rattle.std.specs.List.{AllByRecursion}
use Rattle.complex_core.specs.Labels.{holds}
use Rattle.complex_core.specs.Complexes.{ComplexView}
use Rattle.flip_rules.specs.Flips.{OfFaces, broken_rule, flipped}
use Rattle.flip_rules.specs.declared.flip.Flip.{Flip}
use Rattle.stars.specs.StarViews.{KeptStar, AreStarsOf, HasLabels, EachAtMost, counts, rooms, shown, vertices}
use Rattle.stars.specs.FlipsHere.{stars_flipped, Undoes}
use Rattle.stars.proofs.Flipping.{same_vertices, undo_law}

-- stars that have room for their facets, each
pub rooms_fit : (near : List KeptStar) → AllByRecursion (λ s. length s.star.rows ≤ s.room) near → EachAtMost (counts (shown near)) (rooms near)
rooms_fit near h = λ i. each near i h
  where
    each : (near : List KeptStar) (i : ℕ) → AllByRecursion (λ s. length s.star.rows ≤ s.room) near → get_or (counts (shown near)) i 0 ≤ get_or (rooms near) i 0
    each [] i h = omega arith
    each (s ∷ near) zero h = h.0
    each (s ∷ near) (suc i) h = each near i h.1

-- what the call asks
pub record CanUndo (k : ComplexView) (near : List KeptStar) (f : Flip) : Type 0 where
  pub stars : AreStarsOf k (shown near)
  pub legal : broken_rule k f.b f.a ≡ Ok tt
  pub held : HasLabels (shown near) f
  pub room : EachAtMost (counts (stars_flipped (shown near) f.b f.a)) (rooms near)

pub can_undo : (k : ComplexView) (old new : List KeptStar) (f : Flip) → AreStarsOf k (shown old) → HasLabels (shown old) f → OfFaces f → broken_rule k f.a f.b ≡ Ok tt → shown new ≡ stars_flipped (shown old) f.a f.b → AreStarsOf (flipped k f.a f.b) (shown new) → EachAtMost (rooms old) (rooms new) → EachAtMost (counts (shown old)) (rooms old) → CanUndo (flipped k f.a f.b) new f
can_undo k old new f stars held faces ok made now more fits =
    let u : Undoes k (shown old) f = undo_law k (shown old) f stars faces ok in
    let back : stars_flipped (shown new) f.b f.a ≡ shown old = ap (λ ss. stars_flipped ss f.b f.a) made ∙ u.same in
    let same : vertices (shown new) ≡ vertices (shown old) = ap vertices made ∙ same_vertices (shown old) f.a f.b in
    record {
      stars = now;
      legal = u.legal;
      held = record { first = ap (λ vs. holds vs f.a) same ∙ held.first; second = ap (λ vs. holds vs f.b) same ∙ held.second };
      room = λ i. let a = fits i in let b = more i in let c : get_or (counts (stars_flipped (shown new) f.b f.a)) i 0 ≡ get_or (counts (shown old)) i 0 = ap (λ ss. get_or (counts ss) i 0) back in omega (arith, a, b, c);
    }
