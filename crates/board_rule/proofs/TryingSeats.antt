-- What is known of tries where a board begins, and where a pass is handed out or taken back.
use Rattle.std.proofs.Common.{◌≡◌, ◌≢◌, ◌⊎◌, ℕ, zero, suc, ◌<◌, ◌≤◌, true, List, [], ◌∷◌, ◌++◌, length, sym, refl, ap, ◌∙◌, subst, inl, inr, ⊎_elim, arith, length-set, length-append}
use mathlib.Core.Logic.{dite}
use mathlib.Core.Option.{some, some-injective, some-ne-none}
use native.Mathlib.Decide.{ℕ_discrete}
use Rattle.std.specs.Prelude.{slice_set}
use lib.ListN.{get_elem?}
use Rattle.atomic_table.proofs.Lists.{at_set, set_here, set_else, at_longer}
use Rattle.complex_core.specs.Complexes.{ComplexView}
use Rattle.flip_rules.specs.Entries.{JournalEntry}
use Rattle.board_rule.specs.Tries.{has_won}
use Rattle.board_rule.specs.Views.{newcomer, kept, living, one_more_pass, one_back}
use Rattle.board_rule.specs.Rule.{Written, Owned, Holds, HasWon, Past, first_main_view, opener}
use Rattle.board_rule.specs.Ends.{AllBack}
use Rattle.board_rule.specs.declared.setup.Setup.{Setup}
use Rattle.board_rule.specs.declared.kept.Kept.{Kept}
use Rattle.board_rule.specs.declared.view.PassView.{PassView}
use Rattle.board_rule.specs.declared.view.MainView.{MainView}
use Rattle.board_rule.specs.declared.view.View.{View}
use Rattle.board_rule.specs.declared.view.View.TheVariants.{Main, Pass, Spent}
use Rattle.board_rule.proofs.Items.{off}
use Rattle.board_rule.proofs.Seats.{same_pass, within, there, one_pass, at_end}
use Rattle.board_rule.proofs.TryingEntries.{mine_none}
use Rattle.board_rule.proofs.TryingNotes.{noted_none}
use Rattle.board_rule.proofs.TryingMarks.{holds_new}
use Rattle.board_rule.proofs.TryingBlames.{not_main, not_spent}
use Rattle.board_rule.proofs.TryingSteps.{Tried, same_journal, past_as}

-- ---- seats

-- main is at one seat
pub one_main : (workers places : ℕ) (words : List ℕ) (views : List View) (c d : MainView) (id : ℕ) → Owned workers places words views d → get_elem? views id ≡ some (Main c) → c ≡ d
one_main workers places words views c d id o me = let e : Main c ≡ Main d = some-injective (Main c) (Main d) (sym me ∙ (ap (λ (x : ℕ). get_elem? views x) (o.only id c me) ∙ o.main)) in cc

-- ---- a board begins

no_pass : (c : MainView) (k : ℕ) (u : PassView) → get_elem? (Main c ∷ []) k ≡ some (Pass u) → ⊥
no_pass c zero u at = let e = some-injective (Main c) (Pass u) at in cc
no_pass c (suc k) u at = absurd (some-ne-none (Pass u) (sym at))

not_gone : (k : ℕ) (d : Kept) → get_elem? (living ∷ []) k ≡ some d → d.gone ≡ true → ⊥
not_gone zero d at is = off (ap (λ (x : Kept). x.gone) (some-injective living d at) ∙ is)
not_gone (suc k) d at is = absurd (some-ne-none d (sym at))

pub tried_first : (setup : Setup) → Tried setup [] (opener setup ∷ []) (first_main_view setup)
tried_first setup = record { holds = λ w v at. absurd (no_pass (first_main_view setup) w v at); past = λ w v at. absurd (no_pass (first_main_view setup) w v at); past_gone = λ w k at gone. absurd (not_gone w k at gone) }

-- ---- a pass is handed out

module _ (setup : Setup) (words : List ℕ) (journal : List JournalEntry) (now : ComplexView) (views : List View) (c : MainView) (written : Written setup words (length views) journal now) (o : Owned setup.workers setup.places words views c) (r : Tried setup journal views c)
    (id : ℕ) (me : get_elem? views id ≡ some (Main c)) where
  abbrev front : List View
  front = slice_set views id (Main (one_more_pass c))

  abbrev new_pass_view : PassView
  new_pass_view = newcomer c.start c.places (length c.back)

  abbrev more : List View
  more = front ++ Pass new_pass_view ∷ []

  as_long : length front ≡ length c.back
  as_long = length-set views id (Main (one_more_pass c)) ∙ sym o.back

  longer : length views ≤ length more
  longer = omega (arith, length-append front (Pass new_pass_view ∷ []), length-set views id (Main (one_more_pass c)))

  pass_at : (k : ℕ) (u : PassView) → get_elem? more k ≡ some (Pass u) → (get_elem? views k ≡ some (Pass u)) ⊎ ((k ≡ length c.back) × (new_pass_view ≡ u))
  pass_at k u at = ⊎_elim
      (λ (t : get_elem? front k ≡ some (Pass u)). ⊎_elim (λ (q : (k ≡ id) × (Main (one_more_pass c) ≡ Pass u)). let bad = q.1 in absurd (cc)) (λ (q : (k ≢ id) × (get_elem? views k ≡ some (Pass u))). inl q.1)
      (at_set views id k (Main (one_more_pass c)) (Pass u) t))
      (λ (t : (k ≡ length front) × (Pass new_pass_view ≡ Pass u)). inr (t.0 ∙ as_long, same_pass new_pass_view u t.1))
      (at_end front (Pass new_pass_view) (Pass u) k at)

  won_more : (k p : ℕ) → HasWon views c k p → HasWon more (one_more_pass c) k p
  won_more k p (inl t) = inl (t.0, at_longer front (Pass new_pass_view ∷ []) k (Pass t.0) (set_else views id k (Main (one_more_pass c)) (not_main views c id k t.0 me t.1) ∙ t.1), t.2)
  won_more k p (inr t) = inr (t.0, at_longer c.back (living ∷ []) k t.0 t.1, t.2)

  kept_at : (k : ℕ) (d : Kept) → get_elem? (one_more_pass c).back k ≡ some d → d.gone ≡ true → get_elem? c.back k ≡ some d
  kept_at k d at gone = ⊎_elim (λ t. t) (λ (t : (k ≡ length c.back) × (living ≡ d)). off (ap (λ (x : Kept). x.gone) t.1 ∙ gone)) (at_end c.back living d k at)

  new_past : Past setup journal (length more) more (one_more_pass c) (length c.back) [] []
  new_past = record {
    entries = sym (mine_none journal setup.round setup.places (length views) (length c.back) written.entries (omega (arith, o.back)));
    names = tt;
    notes = noted_none setup journal (length c.back);
    marks = tt;
    few = omega arith;
    blames = tt;
  }

  tried_more : Tried setup journal more (one_more_pass c)
  tried_more = record {
    holds = λ w u at. ⊎_elim (λ t. r.holds w u t) (λ (t : (w ≡ length c.back) × (new_pass_view ≡ u)). subst Holds t.1 (holds_new c.start c.places (length c.back))) (pass_at w u at);
    past = λ w u at. ⊎_elim (λ t. past_as setup journal journal (length views) (length more) views more c (one_more_pass c) w u.mine u.tries (same_journal setup journal w) longer (λ p. omega arith) won_more (r.past w u t))
        (λ (t : (w ≡ length c.back) × (new_pass_view ≡ u)). subst (λ (y : ℕ × PassView). Past setup journal (length more) more (one_more_pass c) y.0 y.1.mine y.1.tries) (λ i. ((sym t.0) i, t.1 i)) new_past)
        (pass_at w u at);
    past_gone = λ w k at gone. past_as setup journal journal (length views) (length more) views more c (one_more_pass c) w k.mine k.tries (same_journal setup journal w) longer (λ p. omega arith) won_more (r.past_gone w k (kept_at w k at gone) gone);
  }

-- the same, of the view of main that a seat has
pub tried_handed : (setup : Setup) (words : List ℕ) (journal : List JournalEntry) (now : ComplexView) (views : List View) (d : MainView) → Written setup words (length views) journal now → Owned setup.workers setup.places words views d → Tried setup journal views d
    → (id : ℕ) (c : MainView) → get_elem? views id ≡ some (Main c) → Tried setup journal (slice_set views id (Main (one_more_pass c)) ++ Pass (newcomer c.start c.places (length c.back)) ∷ []) (one_more_pass c)
tried_handed setup words journal now views d written o r id c me =
    let is = sym (one_main setup.workers setup.places words views c d id o me) in
    tried_more setup words journal now views c written (subst (Owned setup.workers setup.places words views) is o) (subst (Tried setup journal views) is r) id me

-- ---- a pass is taken back

module _ (setup : Setup) (words : List ℕ) (journal : List JournalEntry) (views : List View) (c : MainView) (o : Owned setup.workers setup.places words views c) (r : Tried setup journal views c)
    (id : ℕ) (me : get_elem? views id ≡ some (Main c)) (other : ℕ) (v : PassView) (apart : other ≢ id) (theirs : get_elem? views other ≡ some (Pass v)) where
  abbrev last_kept : Kept
  last_kept = kept true v.mine v.tries

  abbrev mains : List View
  mains = slice_set views id (Main (one_back c v))

  abbrev fewer : List View
  fewer = slice_set mains other Spent

  worker_is : v.worker ≡ other
  worker_is = (o.numbers other v theirs).0

  fewer_length : length views ≤ length fewer
  fewer_length = omega (arith, length-set mains other Spent, length-set views id (Main (one_back c v)))

  pass_was : (k : ℕ) (u : PassView) → get_elem? fewer k ≡ some (Pass u) → get_elem? views k ≡ some (Pass u)
  pass_was k u at = ⊎_elim (λ (t : (k ≡ other) × (Spent ≡ Pass u)). let bad = t.1 in absurd (cc))
      (λ (t : (k ≢ other) × (get_elem? mains k ≡ some (Pass u))). ⊎_elim (λ (q : (k ≡ id) × (Main (one_back c v) ≡ Pass u)). let bad = q.1 in absurd (cc)) (λ (q : (k ≢ id) × (get_elem? views k ≡ some (Pass u))). q.1)
      (at_set views id k (Main (one_back c v)) (Pass u) t.1))
      (at_set mains other k Spent (Pass u) at)

  back_at : (k : ℕ) (d : Kept) → get_elem? (one_back c v).back k ≡ some d → ((k ≡ other) × (last_kept ≡ d)) ⊎ ((k ≢ other) × (get_elem? c.back k ≡ some d))
  back_at k d at = ⊎_elim (λ (t : (k ≡ v.worker) × (last_kept ≡ d)). inl (t.0 ∙ worker_is, t.1)) (λ (t : (k ≢ v.worker) × (get_elem? c.back k ≡ some d)). inr ((λ e. t.0 (e ∙ sym worker_is)), t.1)) (at_set c.back v.worker k last_kept d at)

  last_at : get_elem? (one_back c v).back other ≡ some last_kept
  last_at = subst (λ (x : ℕ). get_elem? (slice_set c.back x last_kept) other ≡ some last_kept) (sym worker_is)
      (set_here c.back other last_kept (let n = within views other (Pass v) theirs in let b = o.back in omega arith))

  won_back : (k p : ℕ) → HasWon views c k p → HasWon fewer (one_back c v) k p
  won_back k p (inl t) = dite (ℕ_discrete k other)
      (λ e. inr (last_kept, subst (λ (x : ℕ). get_elem? (one_back c v).back x ≡ some last_kept) (sym e) last_at, subst (λ (h : PassView). has_won h.tries p ≡ true) (one_pass views k other t.0 v e t.1 theirs) t.2))
      (λ ne. inl (t.0, set_else mains other k Spent ne ∙ (set_else views id k (Main (one_back c v)) (not_main views c id k t.0 me t.1) ∙ t.1), t.2))
  won_back k p (inr t) = dite (ℕ_discrete k other)
      (λ e. let none : t.0 ≡ living = some-injective t.0 living (sym t.1 ∙ (ap (λ (x : ℕ). get_elem? c.back x) e ∙ o.lives other v theirs)) in
      off (ap (λ (d : Kept). has_won d.tries p) (sym none) ∙ t.2))
      (λ ne. inr (t.0, set_else c.back v.worker k last_kept (λ e. ne (e ∙ worker_is)) ∙ t.1, t.2))

  tried_fewer : Tried setup journal fewer (one_back c v)
  tried_fewer = record {
    holds = λ w u at. r.holds w u (pass_was w u at);
    past = λ w u at. past_as setup journal journal (length views) (length fewer) views fewer c (one_back c v) w u.mine u.tries (same_journal setup journal w) fewer_length (λ p. omega arith) won_back (r.past w u (pass_was w u at));
    past_gone = λ w k at gone. past_as setup journal journal (length views) (length fewer) views fewer c (one_back c v) w k.mine k.tries (same_journal setup journal w) fewer_length (λ p. omega arith) won_back
        (⊎_elim (λ (t : (w ≡ other) × (last_kept ≡ k)). subst (λ (y : ℕ × Kept). Past setup journal (length views) views c y.0 y.1.mine y.1.tries) (λ i. ((sym t.0) i, t.1 i)) (r.past other v theirs))
        (λ (t : (w ≢ other) × (get_elem? c.back w ≡ some k)). r.past_gone w k t.1 gone) (back_at w k at));
  }

-- the same, of the view of main that a seat has, and of the pass at another seat
pub tried_back : (setup : Setup) (words : List ℕ) (journal : List JournalEntry) (views : List View) (d : MainView) → Owned setup.workers setup.places words views d → Tried setup journal views d
    → (id : ℕ) (c : MainView) → get_elem? views id ≡ some (Main c) → (other : ℕ) (v : PassView) → ¬ (other ≡ id) → get_elem? (slice_set views id (Main (one_back c v))) other ≡ some (Pass v)
    → Tried setup journal (slice_set (slice_set views id (Main (one_back c v))) other Spent) (one_back c v)
tried_back setup words journal views d o r id c me other v apart theirs =
    let is = sym (one_main setup.workers setup.places words views c d id o me) in
    tried_fewer setup words journal views c (subst (Owned setup.workers setup.places words views) is o) (subst (Tried setup journal views) is r) id me other v apart (sym (set_else views id other (Main (one_back c v)) apart) ∙ theirs)

-- ---- a board is closed

-- no pass lives
pub none_lives : (workers places : ℕ) (words : List ℕ) (views : List View) (c : MainView) (w : ℕ) (v : PassView) → Owned workers places words views c → AllBack c → get_elem? views w ≡ some (Pass v) → ⊥
none_lives workers places words views c w v o back at =
    let near = within views w (Pass v) at in
    let size = o.back in
    let k = there c.back w (omega arith) in
    not_spent views w w v (o.gone w k.0 k.1 (back w k.0 (o.numbers w v at).1 k.1)) at refl

-- so what the rule says of a pass that was taken back names passes that were taken back
pub closed_past : (setup : Setup) (words : List ℕ) (journal : List JournalEntry) (views : List View) (c : MainView) → Owned setup.workers setup.places words views c → Tried setup journal views c → AllBack c
    → (w : ℕ) (k : Kept) → 0 < w → get_elem? c.back w ≡ some k → Past setup journal (length c.back) [] c w k.mine k.tries
closed_past setup words journal views c o r back w k pos at =
    past_as setup journal journal (length views) (length c.back) views [] c c w k.mine k.tries (same_journal setup journal w) (omega (arith, o.back)) (λ p. omega arith) (λ j p h. won_gone j p h) (r.past_gone w k at (back w k pos at))
  where
    won_gone : (j p : ℕ) → HasWon views c j p → HasWon [] c j p
    won_gone j p (inl t) = absurd (none_lives setup.workers setup.places words views c j t.0 o back t.1)
    won_gone j p (inr t) = inr t

-- the same, of the view of main that a seat has
pub tried_closed : (setup : Setup) (words : List ℕ) (journal : List JournalEntry) (views : List View) (d : MainView) → Owned setup.workers setup.places words views d → Tried setup journal views d
    → (id : ℕ) (c : MainView) → get_elem? views id ≡ some (Main c) → AllBack c → (w : ℕ) (k : Kept) → 0 < w → get_elem? c.back w ≡ some k → Past setup journal (length c.back) [] c w k.mine k.tries
tried_closed setup words journal views d o r id c me back =
    let is = sym (one_main setup.workers setup.places words views c d id o me) in
    closed_past setup words journal views c (subst (Owned setup.workers setup.places words views) is o) (subst (Tried setup journal views) is r) back
