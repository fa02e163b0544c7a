-- Flips one after another.
use Rattle.std.proofs.Common.{◌≡◌, ℕ, ◌+◌, ◌<◌, zero, suc, take, drop, get_or, List, [], ◌∷◌, ◌++◌, length, Some, Ok, Err, sym, ◌∙◌, ap, refl, arith}
use Rattle.complex_core.specs.Complexes.{ComplexView}
use Rattle.flip_rules.specs.Flips.{broken_rule, flipped, replay}
use Rattle.flip_rules.specs.Certificates.{IsFirstIllegal}
use Rattle.flip_rules.specs.declared.flip.Flip.{Flip}
use Rattle.flip_rules.specs.declared.flip.Illegal.{Illegal}
use Rattle.flip_rules.proofs.Replays.{replay_then}
use Rattle.complex_core.proofs.Members.{taken_more}

pub split_there : {X : Type 0} (xs : List X) (i : ℕ) (x : X) → i < length xs → x ≡ get_or xs i x → xs ≡ take i xs ++ x ∷ drop (i + 1) xs
split_there [] i x h e = absurd (omega (arith, h))
split_there (y ∷ ys) zero x h e = ap (λ z. z ∷ ys) (sym e)
split_there (y ∷ ys) (suc i) x h e = let n : suc i + 1 ≡ suc (i + 1) = omega arith in rw n (ap (λ zs. y ∷ zs) (split_there ys i x (omega arith) e))

taken_length : {X : Type 0} (xs : List X) (i : ℕ) → i < length xs → length (take i xs) ≡ i
taken_length [] i h = absurd (omega (arith, h))
taken_length (y ∷ ys) zero h = refl
taken_length (y ∷ ys) (suc i) h = let e : length (take i ys) ≡ i = taken_length ys i (omega arith) in omega (arith, e)

-- one more legal flip
pub replay_step : (k mid new : ComplexView) (flips : List Flip) (position : ℕ) (f : Flip) → replay k (take position flips) ≡ Some mid → position < length flips → f ≡ get_or flips position f → broken_rule mid f.a f.b ≡ Ok tt → new ≡ flipped mid f.a f.b → replay k (take (position + 1) flips) ≡ Some new
replay_step k mid new flips position f e n t w c = ap (replay k) (taken_more flips position f n t) ∙ replay_then k mid (take position flips) f e w ∙ ap (λ l. Some l) (sym c)

-- the first one that isn't
pub first_illegal : (k mid : ComplexView) (flips : List Flip) (position : ℕ) (f : Flip) (reason : Illegal) → replay k (take position flips) ≡ Some mid → position < length flips → f ≡ get_or flips position f → broken_rule mid f.a f.b ≡ Err reason → IsFirstIllegal k flips (position + 1) reason
first_illegal k mid flips position f reason e n t w = record {
  before = take position flips;
  flip = f;
  after = drop (position + 1) flips;
  are = split_there flips position f n t;
  counted = let l : length (take position flips) ≡ position = taken_length flips position n in omega (arith, l);
  there = mid;
  replays = e;
  breaks = w;
}
