-- A try before and after one turn.
use Rattle.std.proofs.Common.{◌≡◌, ◌≢◌, ℕ, ◌+◌, ◌*◌, ◌<◌, ◌≤◌, Bool, true, false, List, [], ◌∷◌, ◌++◌, length, get_or, append_assoc, length-append, Result, Ok, Err, if◌then◌else◌, sym, ◌∙◌, ap, refl, subst, arith}
use mathlib.Core.Option.{some}
use Rattle.complex_core.specs.Labels.{has, union}
use Rattle.complex_core.specs.Complexes.{ComplexView, is_held}
use Rattle.complex_core.proofs.Laws.{or_left, or_right}
use Rattle.flip_rules.specs.Flips.{broken_rule, flipped, Shaped, FlipRefused}
use Rattle.flip_rules.specs.Journals.{flip_touches}
use Rattle.flip_rules.specs.declared.flip.Flip.{Flip}
use Rattle.flip_rules.specs.declared.flip.FlipFault.{FlipFault}
use Rattle.flip_rules.specs.declared.flip.FlipFault.TheVariants as fault_of
use Rattle.flip_rules.specs.declared.flip.Illegal.{Illegal}
use Rattle.flip_rules.specs.declared.flip.Illegal.TheVariants.{BIsFace}
use Rattle.flip_rules.proofs.Replays.{replay_then}
use Rattle.star_laws.specs.Stars.{flips_touch, LabelsPass}
use Rattle.star_laws.proofs.FlipStars.{star_flipped}
use Rattle.stars.specs.StarViews.{VertexStar, KeptStar, vertices, shown, IsStarOf, AreStarsOf}
use Rattle.stars.proofs.Finding.{each_at}
use Rattle.board_rule.specs.Items.{item, has_item}
use Rattle.board_rule.specs.Plays.{Sees}
use Rattle.board_rule.specs.Views.{star_in}
use Rattle.board_rule.specs.Homes.{VersionedStar}
use Rattle.board_rule.specs.declared.view.PassView.{PassView}
use Rattle.anneal_plan.specs.Fits.{FitsStar}
use Rattle.anneal_plan.specs.Turns.{after_flip, after_flips}
use Rattle.anneal_plan.proofs.Fitting.{only_b_can_break}
use Rattle.vertex_claims.specs.Passes.{know}
use Rattle.vertex_claims.specs.declared.pass.Pass.{Pass}
use Rattle.held_stars.specs.Holding.{StartedTry, Noting, Going, Made, Restorable, RefusedAt, Reason, Ends}
use Rattle.held_stars.specs.declared.hold.Hold.{Hold}
use Rattle.held_stars.specs.declared.stopped.Stopped.{Stopped}
use Rattle.held_stars.specs.declared.stopped.Stopped.TheVariants as stopped
use Rattle.held_stars.proofs.LentStars.{is_star, each_kept}
use Rattle.held_stars.proofs.MadeFlips.{union_touches, touch_one, touch_snoc}
use Rattle.round_rules.specs.Own.{ReplaysOn}
use Rattle.round_rules.specs.Tasks.{Task}
use Rattle.round_rules.specs.declared.tried.Tried.{Tried}
use Rattle.round_rules.specs.declared.tried.Tried.TheVariants.{Busy, Blocked, Quit, NoMemory}
use Rattle.spec_worker.specs.Trying.{Turned, IsNext, Ended}
use Rattle.spec_worker.proofs.Within.{touched_one}
use Rattle.stars.proofs.Mapping.{either}
use Rattle.anneal_plan.proofs.Turning.{after_more}

-- ---- labels of flips

-- the labels of a flip are labels of flips that it stands among
touch_among : (q : ℕ) (xs : List Flip) (f : Flip) (ys : List Flip) → flip_touches q f ≡ true → flips_touch q (xs ++ f ∷ ys) ≡ true
touch_among q [] f ys t = or_left (flip_touches q f) (flips_touch q ys) t
touch_among q (x ∷ xs) f ys t = or_right (flip_touches q x) (flips_touch q (xs ++ f ∷ ys)) (touch_among q xs f ys t)

pub all_among : (s : StartedTry) (dim : ℕ) (pass : Pass) (h : Hold) (f : Flip) (next : List Flip) (labels : List ℕ) → IsNext s dim pass h f next → labels ≡ union f.a f.b → (q : ℕ) → has labels q ≡ true → flips_touch q s.flips ≡ true
all_among s dim pass h f next labels n is q t = ap (flips_touch q) n.turned.whole ∙ touch_among q h.flips.items f next (sym (union_touches labels f q is) ∙ t)

-- ---- dimensions

-- the star where the try began has the dimension of the try
pub home_dim : (s : StartedTry) (v : PassView) → Sees v → Going s v → s.home.star.dim ≡ s.dim
home_dim s v sees g =
    let here : item v.items s.place ≡ some s.home = ap (λ (l : List (ℕ × VersionedStar)). item l s.place) (sym g.note) ∙ g.noting.first in
    ap (λ (x : VertexStar). x.dim) (sees.stars s.place s.home here).1 ∙ sees.dim ∙ g.noting.start

pub next_shape : (s : StartedTry) (dim : ℕ) (pass : Pass) (h : Hold) (f : Flip) (next : List Flip) → IsNext s dim pass h f next → Shaped dim f.a f.b
next_shape s dim pass h f next n = subst (λ (d : ℕ). Shaped d f.a f.b) (home_dim s (know pass) pass.sees n.turned.going ∙ n.dim_is) n.fits.shape

-- the star that is lent at a place
pub lent_star : (k : ComplexView) (lent near : List KeptStar) (at p : ℕ) (s : KeptStar) → AreStarsOf k (shown lent) → has (vertices (shown lent)) p ≡ true → near ≡ lent → (has (vertices (shown near)) p ≡ true → (at < length near) × ((other : KeptStar) → (get_or near at other).star.vertex ≡ p)) → s ≡ get_or lent at s
    → s.star ≡ star_in k p
lent_star k lent near at p s are held is there own =
    let t : (at < length lent) × ((other : KeptStar) → (get_or lent at other).star.vertex ≡ p) =
    subst (λ (l : List KeptStar). (at < length l) × ((other : KeptStar) → (get_or l at other).star.vertex ≡ p)) is (there (subst (λ (l : List KeptStar). has (vertices (shown l)) p ≡ true) (sym is) held)) in
    let of : IsStarOf k (get_or lent at s).star = each_at (λ (u : KeptStar). IsStarOf k u.star) lent at s (each_kept (IsStarOf k) lent are.each) t.0 in
    is_star k s.star (subst (λ (u : KeptStar). IsStarOf k u.star) (sym own) of) ∙ ap (star_in k) (ap (λ (u : KeptStar). u.star.vertex) own ∙ t.1 s)

-- ---- a flip is made

-- how a try stands once the labels of its next flip are held
pub record Claimed (s : StartedTry) (f : Flip) (next : List Flip) (pass : Pass) (h : Hold) : Type 0 where
  pub going : Going s (know pass)
  pub now : ComplexView
  pub made : Made pass h now
  pub whole : s.flips ≡ h.flips.items ++ f ∷ next
  pub star : star_in now s.place ≡ after_flips s.home.star h.flips.items
  pub labels : LabelsPass (has_item (know pass).items) (f ∷ [])
  pub free : List ℕ
  pub fits : FitsStar (after_flips s.home.star h.flips.items) free f
  pub lent : length h.lent.items ≤ 9 + 8 * length h.flips.items

-- the claims leave the flips and the star of the place
pub claimed : (s : StartedTry) (dim : ℕ) (a b : Pass) (h n : Hold) (f : Flip) (next : List Flip) (labels : List ℕ) → IsNext s dim a h f next → labels ≡ union f.a f.b → length (union f.a f.b) ≤ 8 → n.flips.items ≡ h.flips.items
    → length n.lent.items ≤ length h.lent.items + length labels → ((q : ℕ) → has labels q ≡ true → has_item (know b).items q ≡ true)
    → ((now : ComplexView) → Going s (know a) → ((q : ℕ) → has labels q ≡ true → flips_touch q s.flips ≡ true) → Made a h now → (m : ComplexView) × Going s (know b) × Made b n m × (star_in m s.place ≡ star_in now s.place))
    → Claimed s f next b n
claimed s dim a b h n f next labels t is few flips lent held claim = let r = claim t.turned.now t.turned.going (all_among s dim a h f next labels t is) t.turned.made in record {
  going = r.1;
  now = r.0;
  made = r.2;
  whole = t.turned.whole ∙ ap (λ (fs : List Flip). fs ++ f ∷ next) (sym flips);
  star = r.3 ∙ t.turned.star ∙ ap (after_flips s.home.star) (sym flips);
  labels = λ q u. held q (union_touches labels f q is ∙ touched_one q f u);
  free = t.free;
  fits = subst (λ (fs : List Flip). FitsStar (after_flips s.home.star fs) t.free f) (sym flips) t.fits;
  lent = let p : length h.lent.items ≤ 1 + 8 * length h.flips.items = t.turned.lent in omega (arith, p, few, ap length is, lent, ap length flips);
}

-- then the flip is made
pub turned : (s : StartedTry) (a : Pass) (h n : Hold) (f : Flip) (next : List Flip) (t : Claimed s f next a h) → Made a n (flipped t.now f.a f.b) → n.flips.items ≡ h.flips.items ++ f ∷ [] → length n.lent.items ≡ length h.lent.items → Turned s a n next
turned s a h n f next t made flips lent = record {
  going = t.going;
  now = flipped t.now f.a f.b;
  made = made;
  whole = t.whole ∙ sym (append_assoc h.flips.items (f ∷ []) next) ∙ ap (λ (fs : List Flip). fs ++ next) (sym flips);
  star = (λ i. record { vertex = s.place; dim = t.now.dim; rows = star_flipped t.now f.a f.b s.place i })
      ∙ ap (λ (x : VertexStar). after_flip x f) t.star ∙ after_more s.home.star h.flips.items f ∙ ap (after_flips s.home.star) (sym flips);
  lent = let p = t.lent in omega (arith, p, lent, ap length flips, length-append h.flips.items (f ∷ []));
}

-- ---- a try ends

-- the gate ended it
pub ended_quit : (task : Task) (s : StartedTry) (pass : Pass) (h : Hold) (rest : List Flip) (a : Tried) → Turned s pass h rest → a ≡ Quit → Ended task s pass h a
ended_quit task s pass h rest a t is = subst (Ended task s pass h) (sym is) record {
  try_now = t.going.try_now;
  noting = t.going.noting;
  mine = t.going.mine;
  reason = (tt, tt);
  restorable = (t.now, t.made);
}

pub ended_claim_quit : (task : Task) (s : StartedTry) (pass : Pass) (h : Hold) (reason : Stopped) → reason ≡ stopped.Quit → Ends s pass h reason → Ended task s pass h Quit
ended_claim_quit task s pass h reason is e = record { try_now = e.try_now; noting = e.noting; mine = e.mine; reason = (tt, tt); restorable = e.restorable }

-- another worker had a label
pub ended_busy : (task : Task) (s : StartedTry) (pass : Pass) (h : Hold) (p w q o : ℕ) (reason : Stopped) → reason ≡ stopped.Busy q o → p ≡ q → w ≡ o → Ends s pass h reason → Ended task s pass h (Busy p w)
ended_busy task s pass h p w q o reason is at by e =
    let r : RefusedAt s e.try_now p w = subst (λ (y : Stopped). Reason s e.try_now y) (is ∙ (λ i. stopped.Busy (sym at i) (sym by i))) e.reason in
    record {
      try_now = e.try_now;
      noting = e.noting;
      mine = e.mine;
      reason = (
        record {
          last = r.last;
          owner = r.owner;
          vertex = λ _. record { other = r.other; label = r.label; vertices = r.vertices; journal = r.journal };
          journal = λ z. absurd (omega (arith, z, r.low));
        },
        r.worker,
      );
      restorable = e.restorable;
    }

-- the noted stars are those of the complex that the pass knows, and the flips so far replay on it
replays_on : (s : StartedTry) (dim : ℕ) (pass : Pass) (h : Hold) (now : ComplexView) → (g : Going s (know pass)) → Made pass h now → s.dim ≡ dim → ReplaysOn dim g.try_now.note h.flips.items
replays_on s dim pass h now g m is = record {
  complex = (know pass).seen;
  end = now;
  stars = record {
    complex = pass.sees.complex;
    dim = pass.sees.dim ∙ g.noting.start ∙ is;
    stars = λ p x at. (pass.sees.stars p x (ap (λ (l : List (ℕ × VersionedStar)). item l p) (sym g.note) ∙ at)).1;
  };
  labels = λ q t. ap (λ (l : List (ℕ × VersionedStar)). has_item l q) g.note ∙ m.labels q t;
  replays = m.replays;
}

-- the only rule that a proposed flip may break
only_face : (s : StartedTry) (k : ComplexView) (free : List ℕ) (f : Flip) (x : VertexStar) (e : Illegal) → star_in k s.place ≡ x → FitsStar x free f → broken_rule k f.a f.b ≡ Err e → broken_rule k f.a f.b ≡ Err BIsFace
only_face s k free f x e is fits w =
    by (is_held k.facets f.b) (only_b_can_break k (star_in k s.place) free f record { dim = refl; rows = refl } (subst (λ (y : VertexStar). FitsStar y free f) (sym is) fits))
  where
    by : (b : Bool) → broken_rule k f.a f.b ≡ (if b then Err BIsFace else Ok tt) → broken_rule k f.a f.b ≡ Err BIsFace
    by true u = u
    by false u = let c : Ok tt ≡ Err e = sym u ∙ w in cc

-- B is a face
pub ended_blocked : (task : Task) (s : StartedTry) (f : Flip) (next : List Flip) (a : Pass) (h n : Hold) (e : Illegal) (fault : FlipFault) → (t : Claimed s f next a h) → s.dim ≡ task.dim → fault ≡ fault_of.Illegal e → FlipRefused (broken_rule t.now f.a f.b) fault → Restorable a n → Ended task s a n (Blocked f)
unfolding replays_on
ended_blocked task s f next a h n e fault t is illegal refused r = let w = subst (FlipRefused (broken_rule t.now f.a f.b)) illegal refused in record {
  try_now = t.going.try_now;
  noting = t.going.noting;
  mine = t.going.mine;
  reason = (
    record {
      front = h.flips.items;
      rest = next;
      member = t.whole;
      blocked = record {
        legal = replays_on s task.dim a h t.now t.going t.made is;
        labels = λ q u. ap (λ (l : List (ℕ × VersionedStar)). has_item l q) t.going.note ∙ t.labels q u;
        face = only_face s t.now t.free f (after_flips s.home.star h.flips.items) e t.star t.fits w;
      };
      unrefused = t.going.fresh;
    },
    tt,
  );
  restorable = r;
}

not_made : (fs : List Flip) (f : Flip) → fs ++ f ∷ [] ≢ []
not_made fs f e = let n = ap length e in let m = length-append fs (f ∷ []) in absurd (omega (arith, n, m))

-- a flip that was not made
abbrev failed : FlipFault → Result (Unit {0}) FlipFault
failed fault = Err fault

-- a fault that is want of memory comes only where no rule is broken
none_broken : (w : Result (Unit {0}) Illegal) (fault : FlipFault) → fault ≡ fault_of.Memory → ((e : Illegal) → w ≡ Err e → failed fault ≡ Err (fault_of.Illegal e)) → w ≡ Ok tt
none_broken (Ok u) fault is told = refl
none_broken (Err e) fault is told = let c = told e refl in cc

-- there wasn't enough memory for the flip, which is legal
pub ended_memory : (task : Task) (s : StartedTry) (f : Flip) (next : List Flip) (a : Pass) (h n : Hold) (fault : FlipFault) → (t : Claimed s f next a h) → s.dim ≡ task.dim → fault ≡ fault_of.Memory
    → ((e : Illegal) → broken_rule t.now f.a f.b ≡ Err e → failed fault ≡ Err (fault_of.Illegal e)) → Restorable a n → Ended task s a n NoMemory
unfolding replays_on
ended_memory task s f next a h n fault t is want told back =
    let before = replays_on s task.dim a h t.now t.going t.made is in
    record {
      try_now = t.going.try_now;
      noting = t.going.noting;
      mine = t.going.mine;
      reason = (
        record {
          front = h.flips.items ++ f ∷ [];
          rest = next;
          some = not_made h.flips.items f;
          first = t.whole ∙ sym (append_assoc h.flips.items (f ∷ []) next);
          legal = record {
            complex = before.complex;
            end = flipped t.now f.a f.b;
            stars = before.stars;
            labels = λ q u. either (flips_touch q h.flips.items) (flip_touches q f) (has_item t.going.try_now.note q ≡ true) (sym (touch_snoc q h.flips.items f) ∙ u) (before.labels q)
                (λ v. ap (λ (l : List (ℕ × VersionedStar)). has_item l q) t.going.note ∙ t.labels q (touch_one q f v));
            replays = replay_then (know a).seen t.now h.flips.items f t.made.replays (none_broken (broken_rule t.now f.a f.b) fault want told);
          };
          vertices = t.going.fresh.0;
          journal = (let z : t.going.try_now.journal ≡ 0 = t.going.fresh.1 in omega (arith, z));
        },
        tt,
      );
      restorable = back;
    }
