-- Part 2 of the rule, after each change: whose the places are, and who is at which seat.
use Rattle.std.proofs.Common.{◌≡◌, ◌≢◌, ◌⊎◌, ℕ, zero, suc, ◌+◌, ◌<◌, ◌≤◌, eqb, Bool, true, false, cond, List, [], ◌∷◌, ◌++◌, length, get_or, set, replicate, sym, refl, ap, ◌∙◌, subst, inl, inr, ⊎_elim, arith, length-set, length-append, get_or-set_other, get_or-set_same}
use Rattle.std.proofs.lemmas.List.{length-replicate}
use mathlib.Core.Logic.{dite}
use mathlib.Core.Option.{some, some-injective, some-ne-none}
use native.Mathlib.Decide.{ℕ_discrete}
use lib.ListN.{get_elem?}
use Rattle.atomic_table.proofs.Lists.{at_set, set_here, set_else, at_longer, at_last}
use Rattle.board_rule.specs.Items.{has_item}
use Rattle.board_rule.specs.Views.{keeps, Empty, newcomer, kept, living, one_more_pass, one_back}
use Rattle.board_rule.specs.Rule.{Owned, first_main_view, opener}
use Rattle.board_rule.specs.Plays.{IsRefused}
use Rattle.board_rule.specs.declared.setup.Setup.{Setup}
use Rattle.board_rule.specs.declared.kept.Kept.{Kept}
use Rattle.board_rule.specs.declared.view.PassView.{PassView}
use Rattle.board_rule.specs.declared.view.MainView.{MainView}
use Rattle.board_rule.specs.declared.view.View.{View}
use Rattle.board_rule.specs.declared.view.View.TheVariants.{Main, Pass, Spent}
use Rattle.board_rule.proofs.Items.{tested, off}
use Rattle.board_rule.proofs.Seats.{same_pass, pass_main, pass_spent, main_spent, one_view, one_pass, within, seated, at_end}

-- a place of which the word and the pass's claim to it stay, or change together
abbrev pub Shift : ℕ → List ℕ → List ℕ → ℕ → PassView → PassView → ℕ → Type 0
Shift places words ws id v w q = ((get_or ws q 0 ≡ get_or words q 0) × (keeps w q ≡ keeps v q))
    ⊎ ((q ≤ places) × ((get_or words q 0 ≡ 0) ⊎ (get_or words q 0 ≡ id)) × (((get_or ws q 0 ≡ id) × (keeps w q ≡ true)) ⊎ ((get_or ws q 0 ≡ 0) × (keeps w q ≡ false))))

-- ---- the view of one pass changes, and the words with it

module _ (workers places : ℕ) (words ws : List ℕ) (views : List View) (c : MainView) (id : ℕ) (v w : PassView) (o : Owned workers places words views c) (me : get_elem? views id ≡ some (Pass v)) (same : w.worker ≡ v.worker) (long : length ws ≡ places + 1)
    (each : (q : ℕ) → Shift places words ws id v w q) where
  abbrev vs : List View
  vs = set views id (Pass w)

  mine : get_elem? vs id ≡ some (Pass w)
  mine = set_here views id (Pass w) (within views id (Pass v) me)

  at_me : (k : ℕ) → k ≡ id → get_elem? vs k ≡ some (Pass w)
  at_me k e = subst (λ (x : ℕ). get_elem? vs x ≡ some (Pass w)) (sym e) mine

  owners' : (q k : ℕ) → get_or ws q 0 ≡ k → 0 < k → (u : PassView) × (get_elem? vs k ≡ some (Pass u)) × (keeps u q ≡ true)
  owners' q k is some_one =
      ⊎_elim
      (λ (t : (get_or ws q 0 ≡ get_or words q 0) × (keeps w q ≡ keeps v q)). let old = o.owners q k (sym t.0 ∙ is) some_one in
      dite (ℕ_discrete k id)
      (λ e. (w, at_me k e, t.1 ∙ (ap (λ (u : PassView). keeps u q) (sym (one_pass views k id old.0 v e old.1 me)) ∙ old.2)))
      (λ apart. (old.0, set_else views id k (Pass w) apart ∙ old.1, old.2)))
      (λ (t : (q ≤ places) × ((get_or words q 0 ≡ 0) ⊎ (get_or words q 0 ≡ id)) × (((get_or ws q 0 ≡ id) × (keeps w q ≡ true)) ⊎ ((get_or ws q 0 ≡ 0) × (keeps w q ≡ false)))).
      ⊎_elim (λ (s : (get_or ws q 0 ≡ id) × (keeps w q ≡ true)). (w, at_me k (sym is ∙ s.0), s.1))
      (λ (s : (get_or ws q 0 ≡ 0) × (keeps w q ≡ false)). let z = s.0 in absurd (omega arith)) t.2)
      (each q)

  owned' : (k : ℕ) (u : PassView) (q : ℕ) → get_elem? vs k ≡ some (Pass u) → keeps u q ≡ true → (q ≤ places) × (get_or ws q 0 ≡ k)
  owned' k u q at has =
      ⊎_elim
      (λ (t : (k ≡ id) × (Pass w ≡ Pass u)). let has_w : keeps w q ≡ true = ap (λ (x : PassView). keeps x q) (same_pass w u t.1) ∙ has in
      ⊎_elim (λ (a : (get_or ws q 0 ≡ get_or words q 0) × (keeps w q ≡ keeps v q)). let old = o.owned id v q me (sym a.1 ∙ has_w) in (old.0, a.0 ∙ (old.1 ∙ sym t.0)))
      (λ (b : (q ≤ places) × ((get_or words q 0 ≡ 0) ⊎ (get_or words q 0 ≡ id)) × (((get_or ws q 0 ≡ id) × (keeps w q ≡ true)) ⊎ ((get_or ws q 0 ≡ 0) × (keeps w q ≡ false)))).
      ⊎_elim (λ (s : (get_or ws q 0 ≡ id) × (keeps w q ≡ true)). (b.0, s.0 ∙ sym t.0)) (λ (s : (get_or ws q 0 ≡ 0) × (keeps w q ≡ false)). off (sym s.1 ∙ has_w)) b.2) (each q))
      (λ (t : (k ≢ id) × (get_elem? views k ≡ some (Pass u))). let old = o.owned k u q t.1 has in
      let pos = (o.numbers k u t.1).1 in
      let apart = t.0 in
      ⊎_elim (λ (a : (get_or ws q 0 ≡ get_or words q 0) × (keeps w q ≡ keeps v q)). (old.0, a.0 ∙ old.1))
      (λ (b : (q ≤ places) × ((get_or words q 0 ≡ 0) ⊎ (get_or words q 0 ≡ id)) × (((get_or ws q 0 ≡ id) × (keeps w q ≡ true)) ⊎ ((get_or ws q 0 ≡ 0) × (keeps w q ≡ false)))).
      absurd (⊎_elim (λ (z : get_or words q 0 ≡ 0). let z' : k ≡ 0 = sym old.1 ∙ z in omega arith) (λ (z : get_or words q 0 ≡ id). apart (sym old.1 ∙ z)) b.1)) (each q))
      (seated views id k (Pass w) u at)

  pub shifted : Owned workers places ws vs c
  shifted = let pos = (o.numbers id v me).1 in
      record {
        long = long;
        few = subst (λ (x : ℕ). x ≤ workers + 1) (sym (length-set views id (Pass w))) o.few;
        main = set_else views id 0 (Pass w) (λ e. omega arith) ∙ o.main;
        only = λ i d at. ⊎_elim (λ (t : (i ≡ id) × (Pass w ≡ Main d)). pass_main w d t.1) (λ (t : (i ≢ id) × (get_elem? views i ≡ some (Main d))). o.only i d t.1) (at_set views id i (Pass w) (Main d) at);
        back = o.back ∙ sym (length-set views id (Pass w));
        numbers = λ i u at. ⊎_elim (λ (t : (i ≡ id) × (Pass w ≡ Pass u)). (ap (λ (x : PassView). x.worker) (sym (same_pass w u t.1)) ∙ (same ∙ ((o.numbers id v me).0 ∙ sym t.0)), subst (λ (x : ℕ). 0 < x) (sym t.0) pos))
            (λ (t : (i ≢ id) × (get_elem? views i ≡ some (Pass u))). o.numbers i u t.1) (seated views id i (Pass w) u at);
        lives = λ i u at. ⊎_elim (λ (t : (i ≡ id) × (Pass w ≡ Pass u)). ap (λ (k : ℕ). get_elem? c.back k) t.0 ∙ o.lives id v me)
            (λ (t : (i ≢ id) × (get_elem? views i ≡ some (Pass u))). o.lives i u t.1) (seated views id i (Pass w) u at);
        gone = λ i k at is. dite (ℕ_discrete i id)
            (λ e. pass_spent v (one_view views id i (Pass v) Spent (sym e) me (o.gone i k at is)))
            (λ ne. set_else views id i (Pass w) ne ∙ o.gone i k at is);
        spent = λ i at. ⊎_elim (λ (t : (i ≡ id) × (Pass w ≡ Spent)). pass_spent w t.1) (λ (t : (i ≢ id) × (get_elem? views i ≡ some Spent)). o.spent i t.1) (at_set views id i (Pass w) Spent at);
        owners = owners';
        owned = owned';
      }

-- no word changes
pub viewed : (workers places : ℕ) (words : List ℕ) (views : List View) (c : MainView) (id : ℕ) (v w : PassView) → Owned workers places words views c → get_elem? views id ≡ some (Pass v) → w.worker ≡ v.worker → ((q : ℕ) → keeps w q ≡ keeps v q) → Owned workers places words (set views id (Pass w)) c
viewed workers places words views c id v w o me same all = shifted workers places words words views c id v w o me same o.long (λ q. inl (refl, all q))

-- the word of one place changes
pub moved : (workers places : ℕ) (words : List ℕ) (views : List View) (c : MainView) (id : ℕ) (v w : PassView) (p n : ℕ) → Owned workers places words views c → get_elem? views id ≡ some (Pass v) → w.worker ≡ v.worker → p ≤ places
    → (get_or words p 0 ≡ 0) ⊎ (get_or words p 0 ≡ id) → ((q : ℕ) → q ≢ p → keeps w q ≡ keeps v q) → ((n ≡ id) × (keeps w p ≡ true)) ⊎ ((n ≡ 0) × (keeps w p ≡ false)) → Owned workers places (set words p n) (set views id (Pass w)) c
moved workers places words views c id v w p n o me same near was others here =
    let l = o.long in
    let at_p : get_or (set words p n) p 0 ≡ n = get_or-set_same words p n 0 (omega arith) in
    let P : ℕ → Type 0 = λ q. Shift places words (set words p n) id v w q in
    shifted workers places words (set words p n) views c id v w o me same (length-set words p n ∙ l)
    (λ q. dite (ℕ_discrete q p)
    (λ e. subst P (sym e) (inr (near, was, ⊎_elim (λ (t : (n ≡ id) × (keeps w p ≡ true)). inl (at_p ∙ t.0, t.1)) (λ (t : (n ≡ 0) × (keeps w p ≡ false)). inr (at_p ∙ t.0, t.1)) here)))
    (λ ne. inl (get_or-set_other words p q n 0 ne, others q ne)))

-- ---- whom a word names

-- a word that is not 0 names a pass, which is another one where this one has not the place
pub refused_by : (workers places : ℕ) (words : List ℕ) (views : List View) (c : MainView) (id : ℕ) (v : PassView) (p : ℕ) → Owned workers places words views c → get_elem? views id ≡ some (Pass v) → keeps v p ≡ false → workers < 65536
    → get_or words p 0 ≢ 0 → IsRefused id (get_or words p 0)
refused_by workers places words views c id v p o me hasn't few nz =
    let k : ℕ = get_or words p 0 in
    let t = o.owners p k refl (omega arith) in
    let near = within views k (Pass t.0) t.1 in
    let most = o.few in
    (nz, (λ e. off (sym hasn't ∙ (ap (λ (u : PassView). keeps u p) (one_pass views id k v t.0 (sym e) me t.1) ∙ t.2))), omega arith)

pub keeps_star : (v : PassView) (p : ℕ) → 0 < p → keeps v p ≡ has_item v.items p
keeps_star v p pos = tested p 0 (λ b. cond b v.has_journal (has_item v.items p) ≡ has_item v.items p) (λ e. absurd (omega arith)) (λ _. refl)

-- the same claim to place 0, and to this place if it is from 1
pub keeps_by : (v w : PassView) (q : ℕ) → w.has_journal ≡ v.has_journal → has_item w.items q ≡ has_item v.items q → keeps w q ≡ keeps v q
keeps_by v w q l h = λ i. cond (eqb q 0) (l i) (h i)

empty_handed : {A : Type 0} (v : PassView) (p : ℕ) → v.has_journal ≡ false → has_item v.items p ≡ false → keeps v p ≡ true → A
empty_handed v p j h k = off (sym (pick (eqb p 0)) ∙ k)
  where
    pick : (b : Bool) → cond b v.has_journal (has_item v.items p) ≡ false
    pick true = j
    pick false = h

-- ---- a board is opened

abbrev frees : ℕ → List ℕ
frees n = replicate n 0

all_zero : (n p : ℕ) → get_or (frees n) p 0 ≡ 0
all_zero zero p = refl
all_zero (suc n) zero = refl
all_zero (suc n) (suc p) = all_zero n p

pub zeros : (words : List ℕ) (n p : ℕ) → words ≡ replicate n 0 → get_or words p 0 ≡ 0
zeros words n p e = ap (λ (l : List ℕ). get_or l p 0) e ∙ all_zero n p

pub alone : {A : Type 0} (c : MainView) (k : ℕ) (u : PassView) → get_elem? (Main c ∷ []) k ≡ some (Pass u) → A
alone c zero u at = pass_main u c (sym (some-injective (Main c) (Pass u) at))
alone c (suc k) u at = absurd (some-ne-none (Pass u) (sym at))

pub none_gone : {A : Type 0} (k : ℕ) (d : Kept) → get_elem? (living ∷ []) k ≡ some d → d.gone ≡ true → A
none_gone zero d at is = off (ap (λ (x : Kept). x.gone) (some-injective living d at) ∙ is)
none_gone (suc k) d at is = absurd (some-ne-none d (sym at))

pub owned_first : (setup : Setup) (words : List ℕ) → words ≡ replicate (setup.places + 1) 0 → Owned setup.workers setup.places words (opener setup ∷ []) (first_main_view setup)
owned_first setup words free = record {
  long = ap length free ∙ length-replicate (setup.places + 1) 0;
  few = omega arith;
  main = refl;
  only = only (first_main_view setup);
  back = refl;
  numbers = λ k u at. alone (first_main_view setup) k u at;
  lives = λ k u at. alone (first_main_view setup) k u at;
  gone = λ k d at is. none_gone k d at is;
  spent = λ k at. none_spent (first_main_view setup) k at;
  owners = λ p w is pos. let z = zeros words (setup.places + 1) p free in absurd (omega arith);
  owned = λ k u p at has. alone (first_main_view setup) k u at;
}
  where
    only : (c : MainView) (k : ℕ) (d : MainView) → get_elem? (Main c ∷ []) k ≡ some (Main d) → k ≡ 0
    only c zero d at = refl
    only c (suc k) d at = absurd (some-ne-none (Main d) (sym at))

    none_spent : {A : Type 0} (c : MainView) (k : ℕ) → get_elem? (Main c ∷ []) k ≡ some Spent → A
    none_spent c zero at = main_spent c (some-injective (Main c) Spent at)
    none_spent c (suc k) at = absurd (some-ne-none Spent (sym at))

-- ---- a pass is handed out

module _ (workers places : ℕ) (words : List ℕ) (views : List View) (c : MainView) (id : ℕ) (o : Owned workers places words views c) (me : get_elem? views id ≡ some (Main c)) where
  pub at_0 : id ≡ 0
  at_0 = o.only id c me

  abbrev pub new_pass_view : PassView
  new_pass_view = newcomer c.start c.places (length c.back)

  abbrev front : List View
  front = set views id (Main (one_more_pass c))

  abbrev pub more : List View
  more = front ++ Pass new_pass_view ∷ []

  as_long : length front ≡ length c.back
  as_long = length-set views id (Main (one_more_pass c)) ∙ sym o.back

  pub length-more : length more ≡ length views + 1
  length-more = let l = as_long in let b = o.back in omega (arith, length-append front (Pass new_pass_view ∷ []))

  -- a pass is one of those before, or the new one
  pub pass_at : (k : ℕ) (u : PassView) → get_elem? more k ≡ some (Pass u) → (get_elem? views k ≡ some (Pass u)) ⊎ ((k ≡ length c.back) × (new_pass_view ≡ u))
  pass_at k u at = ⊎_elim
      (λ (t : get_elem? front k ≡ some (Pass u)). ⊎_elim (λ (q : (k ≡ id) × (Main (one_more_pass c) ≡ Pass u)). pass_main u (one_more_pass c) (sym q.1)) (λ (q : (k ≢ id) × (get_elem? views k ≡ some (Pass u))). inl q.1) (at_set views id k (Main (one_more_pass c)) (Pass u) t))
      (λ (t : (k ≡ length front) × (Pass new_pass_view ≡ Pass u)). inr (t.0 ∙ as_long, same_pass new_pass_view u t.1))
      (at_end front (Pass new_pass_view) (Pass u) k at)

  pub stays_at : (k : ℕ) (x : View) → k ≢ 0 → get_elem? views k ≡ some x → get_elem? more k ≡ some x
  stays_at k x ne at = at_longer front (Pass new_pass_view ∷ []) k x (set_else views id k (Main (one_more_pass c)) (λ e. ne (e ∙ at_0)) ∙ at)

  -- what is kept of a pass that was taken back was kept before
  pub old_kept : (k : ℕ) (d : Kept) → get_elem? (one_more_pass c).back k ≡ some d → d.gone ≡ true → get_elem? c.back k ≡ some d
  old_kept k d at is = ⊎_elim (λ (t : get_elem? c.back k ≡ some d). t) (λ (t : (k ≡ length c.back) × (living ≡ d)). off (ap (λ (x : Kept). x.gone) t.1 ∙ is)) (at_end c.back living d k at)

  pub owned_more : length c.back ≤ workers → Owned workers places words more (one_more_pass c)
  owned_more room =
      let l = as_long in let b = o.back in let len = length-more in
      let first = within views 0 (Main c) o.main in
      record {
        long = o.long;
        few = omega arith;
        main = at_longer front (Pass new_pass_view ∷ []) 0 (Main (one_more_pass c)) (subst (λ (x : ℕ). get_elem? (set views x (Main (one_more_pass c))) 0 ≡ some (Main (one_more_pass c))) (sym at_0) (set_here views 0 (Main (one_more_pass c)) first));
        only = λ k d at. ⊎_elim
            (λ (t : get_elem? front k ≡ some (Main d)). ⊎_elim (λ (q : (k ≡ id) × (Main (one_more_pass c) ≡ Main d)). q.0 ∙ at_0) (λ (q : (k ≢ id) × (get_elem? views k ≡ some (Main d))). o.only k d q.1) (at_set views id k (Main (one_more_pass c)) (Main d) t))
            (λ (t : (k ≡ length front) × (Pass new_pass_view ≡ Main d)). pass_main new_pass_view d t.1)
            (at_end front (Pass new_pass_view) (Main d) k at);
        back = omega (arith, length-append c.back (living ∷ []));
        numbers = λ k u at. ⊎_elim (λ t. o.numbers k u t) (λ (t : (k ≡ length c.back) × (new_pass_view ≡ u)). let k_is = t.0 in (ap (λ (x : PassView). x.worker) (sym t.1) ∙ sym t.0, omega arith)) (pass_at k u at);
        lives = λ k u at. ⊎_elim (λ (t : get_elem? views k ≡ some (Pass u)). at_longer c.back (living ∷ []) k living (o.lives k u t))
            (λ (t : (k ≡ length c.back) × (new_pass_view ≡ u)). at_last c.back living k (sym t.0)) (pass_at k u at);
        gone = λ k d at is. let old = o.gone k d (old_kept k d at is) is in stays_at k Spent (λ z. main_spent c (one_view views 0 k (Main c) Spent (sym z) o.main old)) old;
        spent = λ k at. ⊎_elim
            (λ (t : get_elem? front k ≡ some Spent). ⊎_elim (λ (q : (k ≡ id) × (Main (one_more_pass c) ≡ Spent)). main_spent (one_more_pass c) q.1)
            (λ (q : (k ≢ id) × (get_elem? views k ≡ some Spent)). let old = o.spent k q.1 in (old.0, at_longer c.back (living ∷ []) k old.0 old.1, old.2)) (at_set views id k (Main (one_more_pass c)) Spent t))
            (λ (t : (k ≡ length front) × (Pass new_pass_view ≡ Spent)). pass_spent new_pass_view t.1)
            (at_end front (Pass new_pass_view) Spent k at);
        owners = λ p w is pos. let t = o.owners p w is pos in (t.0, stays_at w (Pass t.0) (λ z. omega arith) t.1, t.2);
        owned = λ k u p at has. ⊎_elim (λ t. o.owned k u p t has) (λ (t : (k ≡ length c.back) × (new_pass_view ≡ u)). empty_handed new_pass_view p refl refl (ap (λ (x : PassView). keeps x p) t.1 ∙ has)) (pass_at k u at);
      }

-- ---- a pass is taken back

module _ (workers places : ℕ) (words : List ℕ) (views : List View) (c : MainView) (id other : ℕ) (v : PassView) (o : Owned workers places words views c) (me : get_elem? views id ≡ some (Main c)) (was : get_elem? views other ≡ some (Pass v)) (empty : Empty v) where
  abbrev last_kept : Kept
  last_kept = kept true v.mine v.tries

  abbrev first_set : List View
  first_set = set views id (Main (one_back c v))

  abbrev pub less : List View
  less = set first_set other Spent

  main_0 : id ≡ 0
  main_0 = o.only id c me

  pub worker_is : v.worker ≡ other
  worker_is = (o.numbers other v was).0

  pub length-less : length less ≡ length views
  length-less = length-set first_set other Spent ∙ length-set views id (Main (one_back c v))

  pub else_at : (k : ℕ) → k ≢ other → k ≢ 0 → get_elem? less k ≡ get_elem? views k
  else_at k ne nz = set_else first_set other k Spent ne ∙ set_else views id k (Main (one_back c v)) (λ e. nz (e ∙ main_0))

  -- a pass that lives was there before
  pub pass_was : (k : ℕ) (u : PassView) → get_elem? less k ≡ some (Pass u) → (k ≢ other) × (get_elem? views k ≡ some (Pass u))
  pass_was k u at = ⊎_elim (λ (t : (k ≡ other) × (Spent ≡ Pass u)). pass_spent u (sym t.1))
      (λ (t : (k ≢ other) × (get_elem? first_set k ≡ some (Pass u))). ⊎_elim (λ (q : (k ≡ id) × (Main (one_back c v) ≡ Pass u)). pass_main u (one_back c v) (sym q.1)) (λ (q : (k ≢ id) × (get_elem? views k ≡ some (Pass u))). (t.0, q.1)) (at_set views id k (Main (one_back c v)) (Pass u) t.1))
      (at_set first_set other k Spent (Pass u) at)

  -- what is kept is that of this pass, or was kept before
  pub back_at : (k : ℕ) (d : Kept) → get_elem? (one_back c v).back k ≡ some d → ((k ≡ other) × (last_kept ≡ d)) ⊎ ((k ≢ other) × (get_elem? c.back k ≡ some d))
  back_at k d at = ⊎_elim (λ (t : (k ≡ v.worker) × (last_kept ≡ d)). inl (t.0 ∙ worker_is, t.1)) (λ (t : (k ≢ v.worker) × (get_elem? c.back k ≡ some d)). inr ((λ e. t.0 (e ∙ sym worker_is)), t.1)) (at_set c.back v.worker k last_kept d at)

  pub back_else : (k : ℕ) → k ≢ other → get_elem? (one_back c v).back k ≡ get_elem? c.back k
  back_else k ne = set_else c.back v.worker k last_kept (λ e. ne (e ∙ worker_is))

  pub back_here : get_elem? (one_back c v).back other ≡ some last_kept
  back_here = let near = within views other (Pass v) was in let b = o.back in
      subst (λ (x : ℕ). get_elem? (set c.back x last_kept) other ≡ some last_kept) (sym worker_is) (set_here c.back other last_kept (omega arith))

  pub owned_less : Owned workers places words less (one_back c v)
  owned_less =
      let pos = (o.numbers other v was).1 in
      let first = within views id (Main c) me in
      let near = within views other (Pass v) was in
      let l₁ = length-set views id (Main (one_back c v)) in
      record {
        long = o.long;
        few = subst (λ (x : ℕ). x ≤ workers + 1) (sym length-less) o.few;
        main = set_else first_set other 0 Spent (λ e. omega arith) ∙ subst (λ (x : ℕ). get_elem? first_set x ≡ some (Main (one_back c v))) main_0 (set_here views id (Main (one_back c v)) first);
        only = λ k d at. ⊎_elim (λ (t : (k ≡ other) × (Spent ≡ Main d)). main_spent d (sym t.1))
            (λ (t : (k ≢ other) × (get_elem? first_set k ≡ some (Main d))). ⊎_elim (λ (q : (k ≡ id) × (Main (one_back c v) ≡ Main d)). q.0 ∙ main_0) (λ (q : (k ≢ id) × (get_elem? views k ≡ some (Main d))). o.only k d q.1) (at_set views id k (Main (one_back c v)) (Main d) t.1))
            (at_set first_set other k Spent (Main d) at);
        back = length-set c.back v.worker last_kept ∙ (o.back ∙ sym length-less);
        numbers = λ k u at. o.numbers k u (pass_was k u at).1;
        lives = λ k u at. let t = pass_was k u at in back_else k t.0 ∙ o.lives k u t.1;
        gone = λ k d at is. ⊎_elim (λ (t : (k ≡ other) × (last_kept ≡ d)). subst (λ (x : ℕ). get_elem? less x ≡ some Spent) (sym t.0) (set_here first_set other Spent (omega arith)))
            (λ (t : (k ≢ other) × (get_elem? c.back k ≡ some d)). let old = o.gone k d t.1 is in
            else_at k t.0 (λ z. main_spent c (one_view views 0 k (Main c) Spent (sym z) o.main old)) ∙ old)
            (back_at k d at);
        spent = λ k at. ⊎_elim (λ (t : (k ≡ other) × (Spent ≡ Spent)). (last_kept, subst (λ (x : ℕ). get_elem? (one_back c v).back x ≡ some last_kept) (sym t.0) back_here, refl))
            (λ (t : (k ≢ other) × (get_elem? first_set k ≡ some Spent)). ⊎_elim (λ (q : (k ≡ id) × (Main (one_back c v) ≡ Spent)). main_spent (one_back c v) q.1)
            (λ (q : (k ≢ id) × (get_elem? views k ≡ some Spent)). let old = o.spent k q.1 in (old.0, back_else k t.0 ∙ old.1, old.2)) (at_set views id k (Main (one_back c v)) Spent t.1))
            (at_set first_set other k Spent Spent at);
        owners = λ p w is some_one. let t = o.owners p w is some_one in
            (t.0, else_at w (λ e. off (sym (empty p) ∙ (ap (λ (u : PassView). keeps u p) (one_pass views other w v t.0 (sym e) was t.1) ∙ t.2))) (λ z. omega arith) ∙ t.1, t.2);
        owned = λ k u p at has. o.owned k u p (pass_was k u at).1 has;
      }
