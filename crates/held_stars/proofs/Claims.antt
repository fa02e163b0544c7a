-- A try after one more claim.
use Rattle.std.proofs.Common.{◌≡◌, ◌≢◌, ◌⊎◌, ℕ, ◌<◌, ◌≤◌, ◌+◌, Bool, true, false, cond, nat_eq, ◌||◌, List, [], ◌∷◌, ◌++◌, length, Result, Ok, Err, OnOk, IfErr, Option, Some, None, sym, ◌∙◌, ap, refl, subst, arith, inr, ⊎_elim}
use Rattle.std.specs.List.{AllByRecursion, insert}
use mathlib.Core.Option.{some}
use mathlib.Core.Option as opt
use Rattle.complex_core.specs.Labels.{has}
use Rattle.complex_core.specs.Complexes.{ComplexView}
use Rattle.complex_core.proofs.Booleans.{left_off}
use Rattle.complex_core.proofs.Laws.{or_left}
use Rattle.complex_core.proofs.Members.{has_snoc}
use Rattle.flip_rules.specs.Flips.{replay}
use Rattle.flip_rules.specs.declared.flip.Flip.{Flip}
use Rattle.star_laws.specs.Stars.{star, flips_touch, LabelsPass, AlikeOn, EndAlikeOn}
use Rattle.star_laws.proofs.ReplayStars.{replay_alike}
use Rattle.stars.specs.StarViews.{VertexStar, KeptStar, vertices, shown, IsStarOf}
use Rattle.board_rule.specs.Homes.{VersionedStar}
use Rattle.board_rule.specs.Items.{item, has_item}
use Rattle.board_rule.specs.Plays.{Sees, IsRefused}
use Rattle.board_rule.specs.Tries.{at_last, noted_at, refused_at, one_more}
use Rattle.board_rule.specs.Views.{home, star_in, with_item, counted}
use Rattle.board_rule.specs.declared.data.Slot.{Slot}
use Rattle.board_rule.specs.declared.data.Slot.TheVariants.{Home}
use Rattle.board_rule.specs.declared.view.PassView.{PassView}
use Rattle.board_rule.proofs.Items.{tested, off, some_of, has_some, item_cons, item_past, item_front, has_more}
use Rattle.vertex_claims.specs.Passes.{know, slot, Puts, SameSlots}
use Rattle.vertex_claims.specs.declared.pass.Pass.{Pass}
use Rattle.held_stars.specs.Holding.{IsMade, Made, Lends, StartedTry, Going, Ends}
use Rattle.held_stars.specs.declared.hold.Hold.{Hold}
use Rattle.held_stars.specs.declared.stopped.Stopped.{Stopped}
use Rattle.held_stars.specs.declared.stopped.Stopped.TheVariants.{Busy, Quit}
use Rattle.held_stars.proofs.LentStars.{has_inserted, vertices_inserted, each_lent, each_shown, each_kept, each_there, star_is}
use Rattle.held_stars.proofs.MadeFlips.{touch_both, untouched, made_moved}

alike_end : (held : ℕ → Bool) (m : ComplexView) (x y : Option ComplexView) → x ≡ Some m → EndAlikeOn held x y → (n : ComplexView) × (y ≡ Some n) × AlikeOn held m n
alike_end held m (Some k) (Some n) e h = let i : k ≡ m = cc in (n, refl, subst (λ (j : ComplexView). AlikeOn held j n) i h)
alike_end held m (Some k) None e h = absurd h
alike_end held m None y e h = let f : None ≡ Some m = e in cc

-- the slot of a place that is put twice
pub puts_both : (a b c : Pass) (p : ℕ) (x y : opt.Option Slot) → Puts a b p x → Puts b c p y → Puts a c p y
puts_both a b c p x y f g q = g q ∙ tested p q (λ t. slot b q ≡ cond t x (slot a q) → cond t y (slot b q) ≡ cond t y (slot a q)) (λ _ _. refl) (λ _ h. h) (f q)

pub put_here : (a b : Pass) (p : ℕ) (x : opt.Option Slot) → Puts a b p x → slot b p ≡ x
put_here a b p x f = f p ∙ tested p p (λ t. cond t x (slot a p) ≡ x) (λ _. refl) (λ ne. absurd (ne refl))

-- the star that was found at a place is of that place
pub found_vertex : (v : PassView) (b : Pass) (p : ℕ) (x : VersionedStar) (k : ComplexView) → know b ≡ with_item v p x k → x.star.vertex ≡ p
found_vertex v b p x k known = ap (λ (u : VertexStar). u.vertex) ((subst Sees known b.sees).stars p x (item_front p x v.items)).1

-- what a claim of one more place leaves
pub record Claimed (a b : Pass) (flips : List Flip) (lent : List KeptStar) (now : ComplexView) : Type 0 where
  pub complex : ComplexView
  pub made : IsMade b flips lent complex
  pub stars : (q : ℕ) → has_item (know a).items q ≡ true → star_in complex q ≡ star_in now q

pub or_cond : (t b : Bool) → (t || b) ≡ cond t true b
or_cond true b = refl
or_cond false b = refl

-- the stars that were held are those of another complex now, on which the flips replay too
pub claimed : (a b : Pass) (flips : List Flip) (old new : List KeptStar) (now : ComplexView) (p : ℕ) (x : VersionedStar) (k : ComplexView) (s : VertexStar) → IsMade a flips old now → know b ≡ with_item (know a) p x k → Puts a b p (some (Home (home s x.version))) → has_item (know a).items p ≡ false
    → Lends old new x.star → Claimed a b flips new now
claimed a b flips old new now p x k s m known puts free l =
    let v = know a in
    let held : ℕ → Bool = has_item v.items in
    let sees_b : Sees (with_item v p x k) = subst Sees known b.sees in
    let apart : (q : ℕ) → held q ≡ true → q ≢ p = λ q t e. off (sym free ∙ (ap held (sym e) ∙ t)) in
    let star_is_k : (q : ℕ) → held q ≡ true → star v.seen.facets q ≡ star k.facets q = λ q t. let y = some_of v.items q t in ap (λ (u : VertexStar). u.rows) (sym (a.sees.stars q y.0 y.1).1 ∙ (sees_b.stars q y.0 (item_past p q x v.items (apart q t) ∙ y.1)).1) in
    let dims : v.seen.dim ≡ k.dim = a.sees.dim ∙ sym sees_b.dim in
    let there : AlikeOn held v.seen k = record { dim = dims; stars = star_is_k } in
    let back : AlikeOn held k v.seen = record { dim = sym dims; stars = λ q t. sym (star_is_k q t) } in
    let end : (j : ComplexView) × (replay k flips ≡ Some j) × AlikeOn held now j = alike_end held now (replay v.seen flips) (replay k flips) m.replays (replay_alike held v.seen k flips there m.labels) in
    let j = end.0 in
    let same_star : (q : ℕ) → held q ≡ true → star_in j q ≡ star_in now q = λ q t. λ i. record { vertex = q; dim = (sym end.2.dim) i; rows = (sym (end.2.stars q t)) i } in
    let none : flips_touch p flips ≡ false = by (flips_touch p flips) refl (m.labels p) in
    let own : x.star ≡ star_in k p = (sees_b.stars p x (item_front p x v.items)).1 in
    let kept : l.kept.star ≡ star_in k p = l.star ∙ own in
    let at_p : l.kept.star.vertex ≡ p = ap (λ (u : VertexStar). u.vertex) kept in
    let vs : vertices (shown new) ≡ insert (vertices (shown old)) l.at l.kept.star.vertex = ap (λ (near : List KeptStar). vertices (shown near)) l.now ∙ vertices_inserted old l.at l.kept in
    let seen_b : (fs : List Flip) → replay (know b).seen fs ≡ replay k fs = λ fs. ap (λ (w : PassView). replay w.seen fs) known in
    record {
      complex = j;
      made = record {
        replays = seen_b flips ∙ end.1;
        faces = m.faces;
        labels = λ q t. ap (λ (w : PassView). has_item w.items q) known ∙ has_more p q x v.items (m.labels q t);
        held = record {
          rising = l.rising;
          each = λ q. ap (λ (xs : List ℕ). has xs q) vs ∙ (has_inserted (vertices (shown old)) l.at l.kept.star.vertex q ∙ (ap (λ (n : ℕ). nat_eq n q || has (vertices (shown old)) q) at_p
              ∙ (or_cond (nat_eq p q) (has (vertices (shown old)) q) ∙ (ap (cond (nat_eq p q) true) (m.held.each q) ∙ ap (λ (w : PassView). has_item w.items q) (sym known)))));
        };
        stars = each_shown (IsStarOf j) new (each_lent (λ t. IsStarOf j t.star) old new x.star l
            (each_there old (each_kept (IsStarOf now) old m.stars) (λ t u of. record { dim = of.dim ∙ end.2.dim; rows = of.rows ∙ end.2.stars t.star.vertex (sym (m.held.each t.star.vertex) ∙ u) }))
            (star_is j p l.kept.star (kept ∙ sym (untouched k j flips p sees_b.complex end.1 none))));
        room = λ front rest n e r.
            let labels : LabelsPass held front = λ q t. m.labels q (ap (flips_touch q) e ∙ (touch_both q front rest ∙ or_left (flips_touch q front) (flips_touch q rest) t)) in
            let r_k : replay k front ≡ Some n = sym (seen_b front) ∙ r in
            let was : (i : ComplexView) × (replay v.seen front ≡ Some i) × AlikeOn held n i = alike_end held n (replay k front) (replay v.seen front) r_k (replay_alike held k v.seen front back labels) in
            let mine : star_in n p ≡ star_in k p = untouched k n front p sees_b.complex r_k (left_off (flips_touch p front) (flips_touch p rest) (sym (ap (flips_touch p) e ∙ touch_both p front rest) ∙ none)) in
            each_lent (λ t. length (star n.facets t.star.vertex) ≤ t.room) old new x.star l
            (each_there old (m.room front rest was.0 e was.1) (λ t u few. let same = ap length (was.2.stars t.star.vertex (sym (m.held.each t.star.vertex) ∙ u)) in omega (arith, few, same)))
            (let few = l.fits in let a1 = ap (λ (c : ℕ). length (star n.facets c)) at_p in let b1 = ap (λ (u : VertexStar). length u.rows) mine in let c1 = ap (λ (u : VertexStar). length u.rows) own in omega (arith, few, a1, b1, c1));
        slots = λ q y at. ⊎_elim
            (λ (e : (p ≡ q) × (x ≡ y)). (
              s,
              y.version,
              puts q ∙ (tested p q (λ t. cond t (some (Home (home s x.version))) (slot a q) ≡ some (Home (home s x.version))) (λ _. refl) (λ ne. absurd (ne e.0)) ∙ ap (λ (z : VersionedStar). some (Home (home s z.version))) e.1),
              omega arith,
            ))
            (λ (was : item v.items q ≡ some y).
            let t = has_some v.items q y was in
            let o = m.slots q y was in
            (o.0, o.1, puts q ∙ (tested p q (λ t. cond t (some (Home (home s x.version))) (slot a q) ≡ slot a q) (λ e. absurd (apart q t (sym e))) (λ _. refl) ∙ o.2), o.3))
            (item_cons p q x y v.items (ap (λ (w : PassView). item w.items q) (sym known) ∙ at));
        free = ap (λ (w : PassView). w.has_journal) known ∙ m.free;
      };
      stars = same_star;
    }
  where
    by : (t : Bool) → flips_touch p flips ≡ t → (flips_touch p flips ≡ true → has_item (know a).items p ≡ true) → flips_touch p flips ≡ false
    by true e f = off (sym free ∙ f e)
    by false e f = e

-- a place that isn't held isn't where the try began
pub not_first : (s : StartedTry) (v : PassView) (g : Going s v) (p : ℕ) → has_item v.items p ≡ false → s.place ≢ p
not_first s v g p free e = off (sym free ∙ (ap (has_item v.items) (sym e) ∙ has_some v.items s.place s.home (ap (λ (l : List (ℕ × VersionedStar)). item l s.place) (sym g.note) ∙ g.noting.first)))

pub going_claimed : (s : StartedTry) (a b : PassView) (p : ℕ) (x : VersionedStar) (k : ComplexView) → Going s a → b ≡ with_item a p x k → has_item a.items p ≡ false → flips_touch p s.flips ≡ true → Going s b
going_claimed s a b p x k g known free label =
    let t = g.try_now in
    let o = g.noting in
    record {
      try_now = noted_at p x t;
      noting = record {
        tries = ap (λ (h : PassView). h.tries) known ∙ ap (at_last (noted_at p x)) o.tries;
        place = o.place;
        won = o.won;
        found = o.found;
        first = item_past p s.place x t.note (not_first s a g p free) ∙ o.first;
        count = o.count;
        among = λ q. tested p q (λ b. cond b true (has_item t.note q) ≡ true → (q ≡ s.place) ⊎ (flips_touch q s.flips ≡ true))
            (λ e _. inr (ap (λ (j : ℕ). flips_touch j s.flips) (sym e) ∙ label)) (λ _ h. o.among q h);
        worker = ap (λ (h : PassView). h.worker) known ∙ o.worker;
        start = ap (λ (h : PassView). h.start.dim) known ∙ o.start;
      };
      note = ap (λ (l : List (ℕ × VersionedStar)). (p, x) ∷ l) g.note ∙ ap (λ (h : PassView). h.items) (sym known);
      mine = ap (λ (h : PassView). h.mine) known ∙ g.mine;
      claiming = ap (λ (h : PassView). h.claiming) known ∙ g.claiming;
      fresh = g.fresh;
    }

-- a try ends where a label is refused
pub ends_refused : (s : StartedTry) (a b : Pass) (h : Hold) (now : ComplexView) (p o : ℕ) → Going s (know a) → Made a h now → 0 < p → has_item (know a).items p ≡ false → flips_touch p s.flips ≡ true
    → IsRefused (know a).worker o → know b ≡ counted (know a) p o → SameSlots a b → Ends s b h (Busy p o)
ends_refused s a b h now p o g m pos free label refused known slots =
    let t = g.try_now in
    let n = g.noting in
    let vertices_is : (refused_at p o t).vertices ≡ 1 = tested p 0 (λ c. cond c t.vertices (one_more t.vertices) ≡ 1) (λ e. absurd (omega (arith, pos, e))) (λ _. ap one_more g.fresh.0) in
    let journal_is : (refused_at p o t).journal ≡ 0 = tested p 0 (λ c. cond c (one_more t.journal) t.journal ≡ 0) (λ e. absurd (omega (arith, pos, e))) (λ _. g.fresh.1) in
    record {
      try_now = refused_at p o t;
      noting = record {
        tries = ap (λ (h : PassView). h.tries) known ∙ ap (at_last (refused_at p o)) n.tries;
        place = n.place;
        won = n.won;
        found = n.found;
        first = n.first;
        count = n.count;
        among = n.among;
        worker = ap (λ (h : PassView). h.worker) known ∙ n.worker;
        start = ap (λ (h : PassView). h.start.dim) known ∙ n.start;
      };
      mine = ap (λ (h : PassView). h.mine) known ∙ g.mine;
      reason = record {
        low = pos;
        last = refl;
        owner = refl;
        worker = subst (λ (w : ℕ). IsRefused w o) n.worker refused;
        other = λ e. not_first s (know a) g p free (sym n.place ∙ sym e);
        label = label;
        vertices = vertices_is;
        journal = journal_is;
      };
      restorable = (now, made_moved a b h.flips.items h.lent.items now m (ap (λ (h : PassView). h.seen) known) (ap (λ (h : PassView). h.items) known) (ap (λ (h : PassView). h.has_journal) known ∙ m.free) (λ q _. slots q));
    }

-- or where the gate quits
pub ends_quit : (s : StartedTry) (a : Pass) (h : Hold) (now : ComplexView) (answer : Stopped) → Going s (know a) → Made a h now → answer ≡ Quit → Ends s a h answer
ends_quit s a h now answer g m is = subst (Ends s a h) (sym is) record { try_now = g.try_now; noting = g.noting; mine = g.mine; reason = g.fresh; restorable = (now, m) }

pub ok_any : {P : Type 0} (r : Result (Unit {0}) Stopped) → P → OnOk r P
ok_any (Ok u) p = p
ok_any (Err e) p = tt

pub err_quit : (P : Type 0) (Q : Stopped → Type 0) (r : Result (Unit {0}) Stopped) → IfErr r (λ a. (a ≡ Quit) × P) → ((a : Stopped) → a ≡ Quit → Q a) → IfErr r Q
err_quit P Q (Ok u) h f = tt
err_quit P Q (Err e) h f = f e h.0

-- the place where it began is held
pub first_held : (s : StartedTry) (v : PassView) → Going s v → has_item v.items s.place ≡ true
first_held s v g = has_some v.items s.place s.home (ap (λ (l : List (ℕ × VersionedStar)). item l s.place) (sym g.note) ∙ g.noting.first)

pub here_now : (s : StartedTry) (a : Pass) (h : Hold) (p o q : ℕ) → p ≡ q → Ends s a h (Busy q o) → Ends s a h (Busy p o)
here_now s a h p o q is e = subst (λ (j : ℕ). Ends s a h (Busy j o)) (sym is) e

-- labels that are held, and one more
pub held_more : (old new : List (ℕ × VersionedStar)) (front : List ℕ) (p : ℕ) → ((q : ℕ) → has_item old q ≡ true → has_item new q ≡ true) → ((q : ℕ) → has front q ≡ true → has_item old q ≡ true) → has_item new p ≡ true
    → (q : ℕ) → has (front ++ p ∷ []) q ≡ true → has_item new q ≡ true
held_more old new front p keeps held here q h = by (has front q) refl (nat_eq p q) refl
  where
    by : (a : Bool) → has front q ≡ a → (b : Bool) → nat_eq p q ≡ b → has_item new q ≡ true
    by true e b f = keeps q (held q e)
    by false e true f = ap (has_item new) (sym (Rattle.complex_core.proofs.Laws.nat_eq_is p q f)) ∙ here
    by false e false f = off (sym (has_snoc front p q ∙ (λ i. (e i || f i))) ∙ h)
