-- Flips one after another, seen on stars.
use Rattle.std.proofs.Common.{◌≡◌, ℕ, [], ◌∷◌, Result, Ok, Err, Option, Some, sym, ◌∙◌, ap, subst}
use Rattle.complex_core.specs.Labels.{has}
use Rattle.complex_core.specs.Complexes.{ComplexView}
use Rattle.complex_core.proofs.Laws.{or_left, or_right}
use Rattle.flip_rules.specs.Flips.{broken_rule, flipped, if_legal, replay}
use Rattle.flip_rules.specs.Journals.{flip_touches}
use Rattle.flip_rules.specs.declared.flip.Illegal.{Illegal}
use Rattle.flip_rules.proofs.Replays.{first_flip}
use Rattle.star_laws.specs.Stars.{star, flips_touch, EndAlikeOn, star_after_all}
use Rattle.star_laws.specs.Laws.{ReplayOnAlike, ReplayKeepsStars, StarAfterReplay, FlipSeenOnStars}
use Rattle.star_laws.proofs.FlipStars.{rises_flipped, star_flipped, other_star, flip_alike}
use Rattle.complex_core.proofs.Booleans.{left_off, right_off}

pub replay_alike : ReplayOnAlike
replay_alike held k l [] h hold = h
replay_alike held k l (f ∷ fs) h hold =
    let seen : FlipSeenOnStars held k l f.a f.b = flip_alike held k l f.a f.b h
    (λ p t. hold p (or_left (flip_touches p f) (flips_touch p fs) (or_left (has f.a p) (has f.b p) t)))
    (λ p t. hold p (or_left (flip_touches p f) (flips_touch p fs) (or_right (has f.a p) (has f.b p) t))) in
    let P : Result (Unit {0}) Illegal → Type 0 = λ r. EndAlikeOn held (replay k (f ∷ fs)) (if_legal r (replay (flipped l f.a f.b) fs)) in
    subst P seen.broken_rule (both_judged (broken_rule k f.a f.b) _ _ (replay_alike held (flipped k f.a f.b) (flipped l f.a f.b) fs seen.after (λ p t. hold p (or_right (flip_touches p f) (flips_touch p fs) t))))
  where
    both_judged : (r : Result (Unit {0}) Illegal) (x y : Option ComplexView) → EndAlikeOn held x y → EndAlikeOn held (if_legal r x) (if_legal r y)
    both_judged (Ok u) x y e = e
    both_judged (Err i) x y e = tt

pub others_replay : ReplayKeepsStars
others_replay k m [] p s e n = same_star k m p e
  where
    same_star : (k m : ComplexView) (p : ℕ) → Some k ≡ Some m → star m.facets p ≡ star k.facets p
    same_star k m p e = let g : k ≡ m = cc in ap (λ (n : ComplexView). star n.facets p) (sym g)
others_replay k m (f ∷ fs) p s e n =
    let r : (broken_rule k f.a f.b ≡ Ok tt) × (replay (flipped k f.a f.b) fs ≡ Some m) = first_flip k m f fs e in
    others_replay (flipped k f.a f.b) m fs p (rises_flipped k f.a f.b) r.1 (right_off (flip_touches p f) (flips_touch p fs) n)
    ∙ other_star k f.a f.b p s r.0 (left_off (has f.a p) (has f.b p) (left_off (flip_touches p f) (flips_touch p fs) n)) (right_off (has f.a p) (has f.b p) (left_off (flip_touches p f) (flips_touch p fs) n))

pub star_replayed : StarAfterReplay
star_replayed k m [] p e = same_star k m p e
  where
    same_star : (k m : ComplexView) (p : ℕ) → Some k ≡ Some m → star m.facets p ≡ star k.facets p
    same_star k m p e = let g : k ≡ m = cc in ap (λ (n : ComplexView). star n.facets p) (sym g)
star_replayed k m (f ∷ fs) p e =
    let r : (broken_rule k f.a f.b ≡ Ok tt) × (replay (flipped k f.a f.b) fs ≡ Some m) = first_flip k m f fs e in
    star_replayed (flipped k f.a f.b) m fs p r.1 ∙ ap (λ rows. star_after_all rows fs p) (star_flipped k f.a f.b p)
