-- A try from its first claim to its answer.
use Rattle.std.proofs.Common.{◌≡◌, ℕ, ◌<◌, ◌≤◌, ◌||◌, ◌%◌, true, false, cond, nat_eq, List, [], ◌∷◌, ◌++◌, length, slice_index, Result, Ok, Err, IfOk, IfErr, sym, ◌∙◌, ap, refl, subst, inl, inr, ⊎_elim, arith}
use Rattle.std.specs.List.{AllByRecursion}
use mathlib.Core.Option.{some, some-injective}
use Rattle.complex_core.specs.Labels.{has}
use Rattle.complex_core.specs.Complexes.{ComplexView}
use Rattle.complex_core.proofs.Booleans.{left_off}
use Rattle.flip_rules.specs.Flips.{replay, OfFaces}
use Rattle.flip_rules.specs.Entries.{JournalEntry}
use Rattle.flip_rules.specs.declared.flip.Flip.{Flip}
use Rattle.star_laws.specs.Stars.{star, flips_touch}
use Rattle.stars.specs.StarViews.{VertexStar, KeptStar, vertices, shown, IsStarOf}
use Rattle.anneal_plan.specs.Turns.{after_flips}
use Rattle.board_rule.specs.Items.{item, has_item}
use Rattle.board_rule.specs.Plays.{Sees}
use Rattle.board_rule.specs.Tries.{Try, won_try}
use Rattle.board_rule.specs.Views.{home, star_in, Empty, opened_by}
use Rattle.board_rule.specs.Homes.{VersionedStar}
use Rattle.board_rule.specs.declared.data.Slot.TheVariants.{Home}
use Rattle.board_rule.specs.declared.view.PassView.{PassView}
use Rattle.board_rule.proofs.Items.{tested, off, has_some, item_front}
use Rattle.vertex_claims.specs.Passes.{know, slot}
use Rattle.vertex_claims.specs.declared.pass.Pass.{Pass}
use Rattle.held_stars.specs.Holding.{Lends, StartedTry, Noting, Going, Made}
use Rattle.held_stars.specs.declared.hold.Hold.{Hold}
use Rattle.held_stars.proofs.LentStars.{has_inserted, vertices_inserted, length_inserted, each_lent, each_shown, star_is}
use Rattle.held_stars.proofs.MadeFlips.{touch_both, untouched}
use Rattle.held_stars.proofs.Claims.{or_cond}
use Rattle.vertex_claims.specs.Marks.{mark_of}
use Rattle.round_rules.specs.Rows.{CommittedRow}
use Rattle.round_rules.specs.Own.{OwnTry, OwnRow, EntersNext}
use Rattle.round_rules.specs.Tasks.{Task, turns_of}
use Rattle.round_rules.specs.declared.tried.Tried.{Tried}
use Rattle.round_rules.specs.declared.tried.Tried.TheVariants.{Committed, Busy, Nothing, Blocked, Declined, Quit, NoMemory}
use Rattle.spec_worker.specs.declared.turning.TryPlan.{TryPlan}
use Rattle.spec_worker.specs.Trying.{IsFit, IsTold, IsStartOf, Turned, Ended, Entered, Cause}

-- ---- what is told

-- some task is told by an order that fits
pub record Told (o : TryPlan) (dim : ℕ) : Type 0 where
  pub task : Task
  pub told : IsTold o dim task

pub some_told : (o : TryPlan) (places dim : ℕ) → IsFit o places → Told o dim
some_told o places dim fit = record {
  task = record { dim = dim; phase = o.phase; words = o.words.now; live = o.place ∷ []; free = o.free.now; depth = fit.depth.0 };
  told = record { dim_is = refl; place = ap (slice_index (o.place ∷ [])) (let e : slice_index o.words.now 0 % 1 ≡ 0 = omega arith in e); phase = refl; words = refl; free = refl; count = fit.depth.1 };
}

-- ---- the first claim was won

-- a pass that holds nothing has no items
pub no_items : (v : PassView) → Sees v → Empty v → v.items ≡ []
no_items v s e = by v.items (λ q x at. (s.stars q x at).0) (λ q low. tested q 0 (λ t. cond t v.has_journal (has_item v.items q) ≡ false → has_item v.items q ≡ false) (λ z. absurd (omega (arith, low, z))) (λ _ h. h) (e q))
  where
    by : (items : List (ℕ × VersionedStar)) → ((q : ℕ) (x : VersionedStar) → item items q ≡ some x → 0 < q) → ((q : ℕ) → 0 < q → has_item items q ≡ false) → items ≡ []
    by [] low none_held = refl
    by (i ∷ items) low none_held = off (sym (none_held i.0 (low i.0 i.1 (item_front i.0 i.1 items))) ∙ has_some (i ∷ items) i.0 i.1 (item_front i.0 i.1 items))

module _ (a b : Pass) (p : ℕ) (x : VersionedStar) (k : ComplexView) (known : know b ≡ opened_by (know a) p x k) where
  sees_now : Sees (opened_by (know a) p x k)
  sees_now = subst Sees known b.sees

  pub first_star : x.star ≡ star_in k p
  first_star = (sees_now.stars p x (item_front p x (know a).items)).1

-- what is told, the story of the try, and that no turn was made
pub record Begun (task : Task) (o : TryPlan) (a b : Pass) (h : Hold) (dim : ℕ) : Type 0 where
  pub begun : StartedTry
  pub told : IsTold o dim task
  pub of : IsStartOf task begun
  pub turned : Turned begun b h begun.flips
  pub worker : begun.worker ≡ (know a).worker
  pub earlier : begun.earlier ≡ (know a).tries
  pub mine : begun.mine ≡ (know a).mine

only_place : (p q : ℕ) (x : VersionedStar) → has_item ((p, x) ∷ []) q ≡ true → p ≡ q
only_place p q x = tested p q (λ t. cond t true false ≡ true → p ≡ q) (λ e _. e) (λ _ h. off h)

pub begun : (task : Task) (o : TryPlan) (a b : Pass) (h : Hold) (dim : ℕ) (x : VersionedStar) (k : ComplexView) (left : VertexStar) → IsTold o (know a).start.dim task → Empty (know a) → know b ≡ opened_by (know a) o.place x k → slot b o.place ≡ some (Home (home left x.version)) → dim ≡ (know a).start.dim
    → Lends [] h.lent.items x.star → h.flips.items ≡ [] → Begun task o a b h dim
begun task o a b h dim x k left told empty known at is lent flips =
    let p = o.place in
    let v = know a in
    let begun : StartedTry = record { place = p; flips = turns_of task x.star; home = x; dim = v.start.dim; worker = v.worker; earlier = v.tries; mine = v.mine } in
    let found : x.star ≡ star_in k p = first_star a b p x k known in
    let items : (know b).items ≡ (p, x) ∷ [] = ap (λ (w : PassView). w.items) known ∙ ap (λ (l : List (ℕ × VersionedStar)). (p, x) ∷ l) (no_items v a.sees empty) in
    let free : v.has_journal ≡ false = empty 0 in
    let going : Going begun (know b) = record {
      try_now = won_try p x (length v.mine);
      noting = record {
        tries = ap (λ (w : PassView). w.tries) known;
        place = refl;
        won = refl;
        found = refl;
        first = item_front p x [];
        count = refl;
        among = λ q t. inl (sym (only_place p q x t));
        worker = ap (λ (w : PassView). w.worker) known;
        start = ap (λ (w : PassView). w.start.dim) known;
      };
      note = sym items;
      mine = ap (λ (w : PassView). w.mine) known;
      claiming = ap (λ (w : PassView). w.claiming) known;
      fresh = (refl, refl);
    } in
    let own : lent.kept.star ≡ star_in k p = lent.star ∙ found in
    let vertex : lent.kept.star.vertex ≡ p = ap (λ (u : VertexStar). u.vertex) own in
    let made : Made b h k = record {
      replays = ap (λ (w : PassView). replay w.seen h.flips.items) known ∙ ap (replay k) flips;
      faces = subst (AllByRecursion OfFaces) (sym flips) tt;
      labels = λ q t. off (ap (flips_touch q) (sym flips) ∙ t);
      held = record {
        rising = lent.rising;
        each = λ q. ap (λ (near : List KeptStar). has (vertices (shown near)) q) lent.now ∙ (ap (λ (xs : List ℕ). has xs q) (vertices_inserted [] lent.at lent.kept) ∙ (has_inserted [] lent.at lent.kept.star.vertex q
            ∙ (ap (λ (n : ℕ). nat_eq n q || false) vertex ∙ (or_cond (nat_eq p q) false ∙ ap (λ (l : List (ℕ × VersionedStar)). has_item l q) (sym items)))));
      };
      stars = each_shown (IsStarOf k) h.lent.items (each_lent (λ t. IsStarOf k t.star) [] h.lent.items x.star lent tt (star_is k p lent.kept.star own));
      room = λ front rest m e r. each_lent (λ t. length (star m.facets t.star.vertex) ≤ t.room) [] h.lent.items x.star lent tt
          (let few = lent.fits in
          let same : star_in m p ≡ star_in k p = untouched k m front p (sees_now a b p x k known).complex (ap (λ (w : PassView). replay w.seen front) (sym known) ∙ r) (left_off (flips_touch p front) (flips_touch p rest) (sym (ap (flips_touch p) (sym flips ∙ e) ∙ touch_both p front rest))) in
          let here = ap (λ (n : ℕ). length (star m.facets n)) vertex in
          let rows = ap (λ (u : VertexStar). length u.rows) (same ∙ sym found) in
          omega (arith, few, here, rows));
      slots = λ q y held.
          let here : item ((p, x) ∷ []) q ≡ some y = ap (λ (l : List (ℕ × VersionedStar)). item l q) (sym items) ∙ held in
          let one : p ≡ q = only_place p q x (has_some ((p, x) ∷ []) q y here) in
          let same_home : x ≡ y = some-injective x y (sym (item_front p x []) ∙ (ap (item ((p, x) ∷ [])) one ∙ here)) in
          (left, y.version, ap (slot b) (sym one) ∙ (at ∙ ap (λ (z : VersionedStar). some (Home (home left z.version))) same_home), omega arith);
      free = ap (λ (w : PassView). w.has_journal) known ∙ free;
    } in
    record {
      begun = begun;
      told = subst (λ (d : ℕ). IsTold o d task) (sym is) told;
      of = record { place = sym told.place; dim = sym told.dim_is; flips = refl };
      turned = record {
        going = going;
        now = k;
        made = made;
        whole = ap (λ (fs : List Flip). fs ++ turns_of task x.star) (sym flips);
        star = sym found ∙ ap (after_flips x.star) (sym flips);
        lent = let n = ap length lent.now in let m = length_inserted [] lent.at lent.kept in omega (arith, n, m);
      };
      worker = refl;
      earlier = refl;
      mine = refl;
    }

-- ---- the answer

-- the row of an answer without an entry
cause_row : (task : Task) (round : ℕ) (s : StartedTry) (t : Try) (was now : List JournalEntry) (answer : Tried) → Cause task s t answer → now ≡ was → OwnRow task round s.worker t was now s.flips answer
cause_row task round s t was now (Committed n) cause same = absurd cause.0.entered
cause_row task round s t was now (Busy q o) cause same = (cause.0, cause.1, same)
cause_row task round s t was now Nothing cause same = (cause.0, tt, same)
cause_row task round s t was now (Blocked f) cause same = (cause.0, tt, same)
cause_row task round s t was now (Declined c) cause same = (cause.0, tt, same)
cause_row task round s t was now Quit cause same = (tt, tt, same)
cause_row task round s t was now NoMemory cause same = (cause.0, tt, same)

-- a try whose first claim was won, as the worker says it
won_own : (task : Task) (round : ℕ) (s : StartedTry) (v : PassView) (t : Try) (now : List JournalEntry) (answer : Tried) → IsStartOf task s → Noting s v t → OwnRow task round s.worker t s.mine now s.flips answer → OwnTry task round s.worker t s.mine now answer
won_own task round s v t now answer of n row = record {
  place = n.place ∙ of.place;
  count = n.count;
  lost = λ e. off (sym e ∙ n.won);
  won = λ _. record {
    home = s.home;
    first = ap (item t.note) n.place ∙ n.first;
    version = n.found;
    among = λ q held. ⊎_elim (λ (e : q ≡ s.place). inl (e ∙ sym n.place)) (λ (e : flips_touch q s.flips ≡ true). inr (ap (flips_touch q) (sym of.flips) ∙ e)) (n.among q held);
    row = subst (λ (fs : List Flip). OwnRow task round s.worker t s.mine now fs answer) of.flips row;
  };
}

-- the latest try of a pass is one that its worker says of itself
abbrev pub Owns : Task → ℕ → PassView → PassView → Tried → Type 0
Owns task round v w answer = (t : Try) × (w.tries ≡ t ∷ v.tries) × OwnTry task round v.worker t v.mine w.mine answer

module _ (task : Task) (o : TryPlan) (a b c d : Pass) (h n : Hold) (dim round : ℕ) (g : Begun task o a b h dim) (tries : (know d).tries ≡ (know c).tries) (mine : (know d).mine ≡ (know c).mine) where
  owned : (t : Try) (answer : Tried) → Noting g.begun (know c) t → OwnRow task round g.begun.worker t g.begun.mine (know d).mine g.begun.flips answer → Owns task round (know a) (know d) answer
  owned t answer note row =
      let own : OwnTry task round g.begun.worker t g.begun.mine (know d).mine answer = won_own task round g.begun (know c) t (know d).mine answer g.of note row in
      (t, tries ∙ (note.tries ∙ ap (λ (ts : List Try). t ∷ ts) g.earlier), subst (λ (w : ℕ). OwnTry task round w t (know a).mine (know d).mine answer) g.worker (subst (λ (was : List JournalEntry). OwnTry task round g.begun.worker t was (know d).mine answer) g.mine own))

  ended_own : (answer : Tried) → Ended task g.begun c n answer → Owns task round (know a) (know d) answer
  ended_own answer e = owned e.try_now answer e.noting (cause_row task round g.begun e.try_now g.begun.mine (know d).mine answer e.reason (mine ∙ e.mine))

  entered_own : (seq : ℕ) → Entered task round g.begun c n seq → Owns task round (know a) (know d) (Committed seq)
  entered_own seq e = owned e.try_now (Committed seq) e.noting (subst (λ (now : List JournalEntry). CommittedRow (EntersNext round g.begun.worker g.begun.mine now seq g.begun.flips) task (mark_of e.try_now) g.begun.flips) (sym mine) e.row, tt, tt)

  pub tried_own : (made : Result ℕ Tried) (answer : Tried) → IfOk made (Entered task round g.begun c n) → IfErr made (Ended task g.begun c n) → IfOk made (λ seq. answer ≡ Committed seq) × IfErr made (λ cause. answer ≡ cause) → Owns task round (know a) (know d) answer
  tried_own (Ok seq) answer entered ended is = subst (Owns task round (know a) (know d)) (sym is.0) (entered_own seq entered)
  tried_own (Err cause) answer entered ended is = subst (Owns task round (know a) (know d)) (sym is.1) (ended_own cause ended)
