-- What a gate hears, step after step.
use Rattle.std.proofs.Common.{◌≡◌, ℕ, ◌+◌, Bool, false, cond, List, [], ◌∷◌, length, Option, Some, None, ◌∙◌, ap, refl, subst, arith}
use Rattle.board_rule.specs.Tries.{Try, at_last, noted_at, refused_at}
use Rattle.board_rule.specs.Homes.{VersionedStar}
use Rattle.board_rule.specs.declared.view.PassView.{PassView}
use Rattle.held_stars.specs.Gates.{Heard, Follows, Keeps, after_asked, noted_in}
use Rattle.held_stars.specs.Holding.{waits}
use Rattle.held_stars.specs.declared.point.Point.TheVariants.{Claimed, Flipped}

-- nothing was asked or told
pub follows_self : (P : Heard → Heard → Type 0) (a : Option Heard) → ((h : Heard) → P h h) → Follows a a P
follows_self P None f = tt
follows_self P (Some h) f = (h, refl, f h)

-- the same, said otherwise
pub follows_then : (P Q : Heard → Heard → Type 0) (a b : Option Heard) → Follows a b P → ((h g : Heard) → P h g → Q h g) → Follows a b Q
follows_then P Q a None p f = tt
follows_then P Q a (Some g) p f = (p.0, p.1, f p.0 g p.2)

-- one after the other
pub follows_both : (P Q R : Heard → Heard → Type 0) (a b c : Option Heard) → Follows a b P → Follows b c Q → ((h k g : Heard) → P h k → Q k g → R h g) → Follows a c R
follows_both P Q R a b None p q f = tt
follows_both P Q R a b (Some g) p q f =
    let from : Follows a (Some q.0) P = subst (λ (o : Option Heard). Follows a o P) q.1 p in
    (from.0, from.1, f from.0 q.0 g from.2 q.2)

-- it was not asked: nothing is new, and the try goes on or has stopped otherwise
pub keeps_self : (ends : Bool) (p p2 f f2 : ℕ) → ends ≡ false → p2 ≡ p → f2 ≡ f → (h : Heard) → Keeps ends p p2 f f2 h h
keeps_self ends p p2 f f2 e noted flips h = record {
  ended = (let none : cond {A = ℕ} ends 1 0 ≡ 0 = ap (λ (b : Bool). cond {A = ℕ} b 1 0) e in omega (arith, none));
  started = refl;
  claimed = omega (arith, noted);
  flipped = omega (arith, flips);
  fetched = refl;
  committed = refl;
}

-- one place more was noted, and it was asked
pub keeps_claimed : (ends : Bool) (p p2 f f2 : ℕ) → p2 ≡ p + 1 → f2 ≡ f → (h g : Heard) → g ≡ after_asked Claimed ends h → Keeps ends p p2 f f2 h g
keeps_claimed ends p p2 f f2 noted flips h g e =
    let c = ap (λ (k : Heard). k.claimed) e in
    let l = ap (λ (k : Heard). k.flipped) e in
    record {
      ended = ap (λ (k : Heard). k.ended) e;
      started = ap (λ (k : Heard). k.started) e;
      claimed = omega (arith, noted, c);
      flipped = omega (arith, flips, l);
      fetched = ap (λ (k : Heard). k.fetched) e;
      committed = ap (λ (k : Heard). k.committed) e;
    }

-- one flip more, and it was asked
pub keeps_flipped : (ends : Bool) (p p2 f f2 : ℕ) → p2 ≡ p → f2 ≡ f + 1 → (h g : Heard) → g ≡ after_asked Flipped ends h → Keeps ends p p2 f f2 h g
keeps_flipped ends p p2 f f2 noted flips h g e =
    let c = ap (λ (k : Heard). k.claimed) e in
    let l = ap (λ (k : Heard). k.flipped) e in
    record {
      ended = ap (λ (k : Heard). k.ended) e;
      started = ap (λ (k : Heard). k.started) e;
      claimed = omega (arith, noted, c);
      flipped = omega (arith, flips, l);
      fetched = ap (λ (k : Heard). k.fetched) e;
      committed = ap (λ (k : Heard). k.committed) e;
    }

-- two in a row, of which the first goes on
pub keeps_both : (ends : Bool) (p p2 p3 f f2 f3 : ℕ) (h k g : Heard) → Keeps false p p2 f f2 h k → Keeps ends p2 p3 f2 f3 k g → Keeps ends p p3 f f3 h g
keeps_both ends p p2 p3 f f2 f3 h k g a b =
    let c = a.claimed in
    let d = b.claimed in
    let u = a.flipped in
    let v = b.flipped in
    let x : k.ended ≡ h.ended + 0 = a.ended in
    let y = b.ended in
    record {
      ended = omega (arith, x, y);
      started = b.started ∙ a.started;
      claimed = omega (arith, c, d);
      flipped = omega (arith, u, v);
      fetched = b.fetched ∙ a.fetched;
      committed = b.committed ∙ a.committed;
    }

-- said of the same answer otherwise
pub keeps_as : (ends other : Bool) (p p2 f f2 : ℕ) → ends ≡ other → (h g : Heard) → Keeps ends p p2 f f2 h g → Keeps other p p2 f f2 h g
keeps_as ends other p p2 f f2 e h g k = record { ended = k.ended ∙ ap (λ (b : Bool). h.ended + cond b 1 0) e; started = k.started; claimed = k.claimed; flipped = k.flipped; fetched = k.fetched; committed = k.committed }

-- one place more, of which it was asked
pub keeps_more : (ends : Bool) (p p2 f f2 : ℕ) (h g : Heard) → Keeps ends p p2 f f2 h g → Keeps ends (p + 1) (p2 + 1) f f2 h g
keeps_more ends p p2 f f2 h g k = record { ended = k.ended; started = k.started; claimed = (let c = k.claimed in omega (arith, c)); flipped = k.flipped; fetched = k.fetched; committed = k.committed }

-- the same number of places is noted afterwards
pub keeps_then : (ends : Bool) (p p2 p3 f f2 : ℕ) → p3 ≡ p2 → (h g : Heard) → Keeps ends p p2 f f2 h g → Keeps ends p p3 f f2 h g
keeps_then ends p p2 p3 f f2 noted h g k = record { ended = k.ended; started = k.started; claimed = (let c = k.claimed in omega (arith, noted, c)); flipped = k.flipped; fetched = k.fetched; committed = k.committed }

-- ---- notes

pub noted_refused : (ts : List Try) (p o : ℕ) → noted_in (at_last (refused_at p o) ts) ≡ noted_in ts
noted_refused [] p o = refl
noted_refused (t ∷ ts) p o = refl

pub noted_won : (ts es : List Try) (t : Try) (p : ℕ) (x : VersionedStar) → ts ≡ t ∷ es → noted_in (at_last (noted_at p x) ts) ≡ noted_in ts + 1
noted_won [] es t p x e = let n = ap length e in absurd (omega (arith, n))
noted_won (u ∷ us) es t p x e = omega arith

pub noted_waiting : (v : PassView) (os : List ℕ) → noted_in (waits v os).tries ≡ noted_in v.tries
noted_waiting v [] = refl
noted_waiting v (o ∷ os) = noted_refused (waits v os).tries 0 o ∙ noted_waiting v os

-- one pass knows what another knew
pub same_noted : (v w : PassView) → w ≡ v → noted_in w.tries ≡ noted_in v.tries
same_noted v w e = ap (λ (u : PassView). noted_in u.tries) e
