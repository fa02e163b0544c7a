-- Flips one after another, seen on held stars.
use Rattle.std.proofs.Common.{◌≡◌, ◌≢◌, ℕ, Bool, true, false, nat_eq, ◌||◌, List, [], ◌∷◌, length, Option, Some, None, sym, ◌∙◌, ap, refl, subst, arith}
use Rattle.std.specs.List.{AllByRecursion}
use Rattle.std.proofs.lemmas.Bool.{true≢false}
use Rattle.complex_core.specs.Labels.{IsRising, has}
use Rattle.complex_core.specs.Complexes.{ComplexView}
use Rattle.complex_core.proofs.Laws.{nat_eq_is, nat_eq_same, or_left}
use Rattle.flip_rules.specs.Flips.{replay, OfFaces}
use Rattle.flip_rules.specs.Journals.{flip_touches}
use Rattle.flip_rules.proofs.Legal.{legal}
use Rattle.flip_rules.proofs.Replays.{first_flip, replay_dim, complex_replayed}
use Rattle.flip_rules.specs.declared.flip.Flip.{Flip}
use Rattle.star_laws.specs.Stars.{star, flips_touch, AlikeOn, EndAlikeOn, star_after_all}
use Rattle.star_laws.proofs.ReplayStars.{replay_alike, others_replay, star_replayed as star_at_end}
use Rattle.stars.specs.StarViews.{VertexStar, vertices, IsStarOf, AreStarsOf}
use Rattle.stars.specs.FlipsHere.{stars_replayed, ReplaysHere, FlipsSeenHere}

alike_star : (k l : ComplexView) (near : List VertexStar) (p : ℕ) → AllByRecursion (IsStarOf k) near → AllByRecursion (IsStarOf l) near → has (vertices near) p ≡ true → star k.facets p ≡ star l.facets p
alike_star k l [] p h g t = absurd (true≢false (sym t))
alike_star k l (s ∷ near) p h g t =
    elim (nat_eq s.vertex p) as (λ b. nat_eq s.vertex p ≡ b → (b || has (vertices near) p) ≡ true → star k.facets p ≡ star l.facets p) [
      | true ↦ λ e _. let v : s.vertex ≡ p = nat_eq_is s.vertex p e in ap (star k.facets) (sym v) ∙ sym h.0.rows ∙ g.0.rows ∙ ap (star l.facets) v
      | false ↦ λ _ r. alike_star k l near p h.1 g.1 r
    ] refl t

same_vertices : (near : List VertexStar) (flips : List Flip) → vertices (stars_replayed near flips) ≡ vertices near
same_vertices [] flips = refl
same_vertices (s ∷ near) flips = ap (λ vs. s.vertex ∷ vs) (same_vertices near flips)

each_replayed : (l n : ComplexView) (near : List VertexStar) (flips : List Flip) → replay l flips ≡ Some n → AllByRecursion (IsStarOf l) near → AllByRecursion (IsStarOf n) (stars_replayed near flips)
each_replayed l n [] flips e h = tt
each_replayed l n (s ∷ near) flips e h = (
  record {
    dim = h.0.dim ∙ sym (replay_dim l n flips e);
    rows = ap (λ fs. star_after_all fs flips s.vertex) h.0.rows ∙ sym (star_at_end l n flips s.vertex e);
  },
  each_replayed l n near flips e h.1,
)

-- where the flips come to an end, the held stars are those of the end
pub replayed_here : (l n : ComplexView) (near : List VertexStar) (flips : List Flip) → replay l flips ≡ Some n → AllByRecursion OfFaces flips → AreStarsOf l near → ReplaysHere l near flips
replayed_here l n near flips e faces h = record {
  end = n;
  replays = e;
  held = record {
    complex = complex_replayed l n flips h.complex faces e;
    rising = let P : List ℕ → Type 0 = λ vs. IsRising vs in subst P (sym (same_vertices near flips)) h.rising;
    each = each_replayed l n near flips e h.each;
  };
  others = λ p untouched. others_replay l n flips p h.complex.rising e untouched;
}

-- an end that is alike is an end
alike_end : (held : ℕ → Bool) (m : ComplexView) (x y : Option ComplexView) → x ≡ Some m → EndAlikeOn held x y → (n : ComplexView) × (y ≡ Some n)
alike_end held m (Some k) (Some n) e h = (n, refl)
alike_end held m (Some k) None e h = absurd h
alike_end held m None y e h = let f : None ≡ Some m = e in cc

some_label : (xs : List ℕ) → length xs ≢ 0 → (x : ℕ) × (has xs x ≡ true)
some_label [] h = absurd (h (omega arith))
some_label (x ∷ xs) h = (x, or_left (nat_eq x x) (has xs x) (nat_eq_same x))

-- a legal flip has a label
touched : (k m : ComplexView) (f : Flip) (fs : List Flip) → replay k (f ∷ fs) ≡ Some m → (x : ℕ) × (flips_touch x (f ∷ fs) ≡ true)
touched k m f fs e =
    let r : (x : ℕ) × (has f.a x ≡ true) = some_label f.a (legal k f.a f.b (first_flip k m f fs e).0).shape.first in
    (r.0, or_left (flip_touches r.0 f) (flips_touch r.0 fs) (or_left (has f.a r.0) (has f.b r.0) r.1))

pub seen_here : FlipsSeenHere
seen_here k m l [] [] h e faces pass g = replayed_here l l [] [] refl faces g
seen_here k m l [] (f ∷ fs) h e faces pass g = let r : (x : ℕ) × (flips_touch x (f ∷ fs) ≡ true) = touched k m f fs e in absurd (true≢false (sym (pass r.0 r.1)))
seen_here k m l (s ∷ near) flips h e faces pass g =
    let held : ℕ → Bool = has (vertices (s ∷ near)) in
    let alike : AlikeOn held k l = record { dim = sym h.each.0.dim ∙ g.each.0.dim; stars = λ p t. alike_star k l (s ∷ near) p h.each g.each t } in
    let end : (n : ComplexView) × (replay l flips ≡ Some n) = alike_end held m (replay k flips) (replay l flips) e (replay_alike held k l flips alike pass) in
    replayed_here l end.0 (s ∷ near) flips end.1 faces g
