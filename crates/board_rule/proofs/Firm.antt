-- Parts 1 to 4 of the rule, after each kind of step.
use Rattle.std.proofs.Common.{◌≡◌, ◌≢◌, ℕ, ◌+◌, ◌<◌, ◌≤◌, ◌^◌, Bool, true, false, List, [], ◌∷◌, ◌++◌, length, get_or, set, Some, sym, refl, ap, ◌∙◌, subst, inl, inr, ⊎_elim, arith, length-set}
use mathlib.Core.Option.{some}
use lib.ListN.{get_elem?}
use Rattle.atomic_table.specs.Table.{opening}
use Rattle.complex_core.specs.Complexes.{ComplexView}
use Rattle.flip_rules.specs.Flips.{replay}
use Rattle.flip_rules.specs.Entries.{JournalEntry}
use Rattle.flip_rules.specs.Journals.{mine}
use Rattle.star_laws.specs.Stars.{flips_touch}
use Rattle.core_laws.specs.Cores.{after, of_worker}
use Rattle.board_rule.specs.Books.{Book}
use Rattle.board_rule.specs.Items.{item}
use Rattle.board_rule.specs.Views.{home_at, keeps, Empty, opened_by, with_item, with_journal, without_item, without_journal, committed, one_more_pass, one_back}
use Rattle.board_rule.specs.Rule.{Board, Written, Owned, Housed, Knows, Ruled, first_main_view, opener}
use Rattle.board_rule.specs.Ends.{Opens, Commits}
use Rattle.board_rule.specs.Steps.{looked, taken, put_home}
use Rattle.board_rule.specs.declared.setup.Setup.{Setup}
use Rattle.board_rule.specs.Homes.{VersionedStar}
use Rattle.board_rule.specs.declared.data.Slot.{Slot}
use Rattle.board_rule.specs.declared.data.Slot.TheVariants.{Journal, Home}
use Rattle.board_rule.specs.declared.view.PassView.{PassView}
use Rattle.board_rule.specs.declared.view.MainView.{MainView}
use Rattle.board_rule.specs.declared.view.View.TheVariants.{Main, Pass}
use Rattle.board_rule.proofs.Items.{some_of, has_cons_here, has_cons_else, has_without_here, has_without_else, has_flipped}
use Rattle.board_rule.proofs.Seats.{same_pass, within, seated}
use Rattle.board_rule.proofs.Owning.{viewed, moved, keeps_star, keeps_by, owned_first, owned_more, owned_less, alone, more, new_pass_view, pass_at, length-more, less, length-less, pass_was}
use Rattle.board_rule.proofs.Housing.{housed_away, housed_back, housed_book, housed_first}
use Rattle.board_rule.proofs.Writing.{written_as, written_first, written_more, mine_of_worker}
use Rattle.board_rule.proofs.Knowing.{legal_now, home_unmoved, knows_new, knows_opened, knows_more, knows_journal, knows_less, knows_left, knows_commit, knows_beside}

-- parts 1 to 4 of the rule
pub record Firm (setup : Setup) (s : Board) (journal : List JournalEntry) (now : ComplexView) (c : MainView) : Type 0 where
  pub frame : (c.start ≡ setup.start.value) × (c.places ≡ setup.places)
  pub written : Written setup s.words (length s.views) journal now
  pub owned : Owned setup.workers setup.places s.words s.views c
  pub housed : Housed setup.places s.words s.homes journal now
  pub knows : (w : ℕ) (v : PassView) → get_elem? s.views w ≡ some (Pass v) → Knows setup journal now v

pub firm_of : (setup : Setup) (s : Board) (r : Ruled setup s) → Firm setup s r.journal r.now r.main_view
firm_of setup s r = record { frame = r.frame; written = r.written; owned = r.owned; housed = r.housed; knows = λ w v at. (r.living w v at).knows }

module _ (setup : Setup) (s : Board) (journal : List JournalEntry) (now : ComplexView) (c : MainView) (f : Firm setup s journal now c) where
  -- what the others know stays
  others : (id : ℕ) (u : PassView) → Knows setup journal now u → (w : ℕ) (v : PassView) → get_elem? (set s.views id (Pass u)) w ≡ some (Pass v) → Knows setup journal now v
  others id u new w v at = ⊎_elim (λ (t : (w ≡ id) × (Pass u ≡ Pass v)). subst (Knows setup journal now) (same_pass u v t.1) new) (λ (t : (w ≢ id) × (get_elem? s.views w ≡ some (Pass v))). f.knows w v t.1) (seated s.views id w (Pass u) v at)

  as_many : (id : ℕ) (u : PassView) (words : List ℕ) → Written setup words (length (set s.views id (Pass u))) journal now
  as_many id u words = let l = length-set s.views id (Pass u) in written_as setup s.words words (length s.views) (length (set s.views id (Pass u))) journal now (omega arith) f.written

  pub firm_looked : (id : ℕ) (v u : PassView) → get_elem? s.views id ≡ some (Pass v) → u.worker ≡ v.worker → ((q : ℕ) → keeps u q ≡ keeps v q) → Knows setup journal now u → Firm setup (looked s id u) journal now c
  firm_looked id v u me same all new = record {
    frame = f.frame;
    written = as_many id u s.words;
    owned = viewed setup.workers setup.places s.words s.views c id v u f.owned me same all;
    housed = f.housed;
    knows = others id u new;
  }

  firm_taken : (p id : ℕ) (v u : PassView) → get_elem? s.views id ≡ some (Pass v) → p ≤ setup.places → get_or s.words p 0 ≡ 0 → u.worker ≡ v.worker → ((q : ℕ) → q ≢ p → keeps u q ≡ keeps v q) → keeps u p ≡ true → Knows setup journal now u
      → Firm setup (taken s p id u) journal now c
  firm_taken p id v u me near free same all here new = let pos = (f.owned.numbers id v me).1 in record {
    frame = f.frame;
    written = as_many id u (set s.words p id);
    owned = moved setup.workers setup.places s.words s.views c id v u p id f.owned me same near (inl free) all (inl (refl, here));
    housed = housed_away setup.places s.words s.homes journal now p id f.owned.long near pos f.housed;
    knows = others id u new;
  }

  -- the first claim of a try
  pub firm_opened : (p id : ℕ) (v : PassView) (seen : ComplexView) → get_elem? s.views id ≡ some (Pass v) → 0 < p → p ≤ setup.places → get_or s.words p 0 ≡ 0 → Firm setup (taken s p id (opened_by v p (home_at now journal p) seen)) journal now c
  firm_opened p id v seen me pos near free = let u : PassView = opened_by v p (home_at now journal p) seen in
      firm_taken p id v u me near free refl (λ q ne. keeps_by v u q refl (has_cons_else p q (home_at now journal p) v.items ne)) (keeps_star u p pos ∙ has_cons_here p (home_at now journal p) v.items) (knows_opened setup journal now v p seen pos (f.knows id v me))

  -- a later claim
  pub firm_more : (p id : ℕ) (v : PassView) (seen : ComplexView) → get_elem? s.views id ≡ some (Pass v) → 0 < p → p ≤ setup.places → get_or s.words p 0 ≡ 0 → Firm setup (taken s p id (with_item v p (home_at now journal p) seen)) journal now c
  firm_more p id v seen me pos near free = let u : PassView = with_item v p (home_at now journal p) seen in
      firm_taken p id v u me near free refl (λ q ne. keeps_by v u q refl (has_cons_else p q (home_at now journal p) v.items ne)) (keeps_star u p pos ∙ has_cons_here p (home_at now journal p) v.items) (knows_more setup journal now v p seen pos (f.knows id v me))

  -- a claim of the journal
  pub firm_journal : (id : ℕ) (v : PassView) → get_elem? s.views id ≡ some (Pass v) → get_or s.words 0 0 ≡ 0 → Firm setup (taken s 0 id (with_journal v journal)) journal now c
  firm_journal id v me free = let u : PassView = with_journal v journal in
      firm_taken 0 id v u me (omega arith) free refl (λ q ne. keeps_star u q (omega arith) ∙ sym (keeps_star v q (omega arith))) refl (knows_journal setup journal now v (f.knows id v me))

  -- release of a place from 1
  pub firm_less : (p id : ℕ) (v : PassView) (x : VersionedStar) → length s.homes ≡ setup.places + 1 → get_elem? s.views id ≡ some (Pass v) → 0 < p → keeps v p ≡ true → item v.items p ≡ some x → Firm setup (put_home s p (Home x) id (without_item v p)) journal now c
  firm_less p id v x wide me pos has knows =
      let u : PassView = without_item v p in
      let old = f.owned.owned id v p me has in
      record {
        frame = f.frame;
        written = as_many id u (set s.words p 0);
        owned = moved setup.workers setup.places s.words s.views c id v u p 0 f.owned me refl old.0 (inr old.1) (λ q ne. keeps_by v u q refl (has_without_else p q v.items ne)) (inr (refl, keeps_star u p pos ∙ has_without_here p v.items));
        housed = subst (λ (y : VersionedStar). Housed setup.places (set s.words p 0) (set s.homes p (some (Home y))) journal now) (sym ((f.knows id v me).items p x knows).1) (housed_back setup.places s.words s.homes journal now p wide old.0 pos f.housed);
        knows = others id u (knows_less setup journal now v p (f.knows id v me));
      }

  -- release of the journal
  pub firm_left : (id : ℕ) (v : PassView) (b : Book) → length s.homes ≡ setup.places + 1 → get_elem? s.views id ≡ some (Pass v) → v.has_journal ≡ true → b.entries ≡ v.journal → Firm setup (put_home s 0 (Journal b) id (without_journal v)) journal now c
  firm_left id v b wide me has as_was =
      let u : PassView = without_journal v in
      let old = f.owned.owned id v 0 me has in
      record {
        frame = f.frame;
        written = as_many id u (set s.words 0 0);
        owned = moved setup.workers setup.places s.words s.views c id v u 0 0 f.owned me refl old.0 (inr old.1) (λ q ne. keeps_star u q (omega arith) ∙ sym (keeps_star v q (omega arith))) (inr (refl, refl));
        housed = housed_book setup.places s.words s.homes journal journal now now b (omega arith) (as_was ∙ (f.knows id v me).taken has) (λ q pos free. refl) f.housed;
        knows = others id u (knows_left setup journal now v (f.knows id v me));
      }

  -- a commit
  module _ (id : ℕ) (v : PassView) (b : Book) (e : JournalEntry) (wide : length s.homes ≡ setup.places + 1) (me : get_elem? s.views id ≡ some (Pass v)) (has : v.has_journal ≡ true) (writes : b.entries ≡ v.journal ++ e ∷ []) (fits : length b.entries < 2 ^ 64) (may : Commits setup v e)
      (done : v.mine ≡ mine journal setup.round id) where
    abbrev pub end : ComplexView
    end = after now e.flips

    pub legal : replay now e.flips ≡ Some end
    legal = legal_now setup s.words (length s.views) journal now v e.flips f.written (f.knows id v me) may.sees may.held may.legal

    pub is_id : e.worker ≡ id
    is_id = may.worker ∙ (f.owned.numbers id v me).0

    pub is_journal : b.entries ≡ journal ++ e ∷ []
    is_journal = writes ∙ ap (λ (l : List JournalEntry). l ++ e ∷ []) ((f.knows id v me).taken has)

    pub on_places : (p : ℕ) → flips_touch p e.flips ≡ true → (p ≤ setup.places) × (get_or s.words p 0 ≡ id)
    on_places p t =
        let x = some_of v.items p (may.held p t) in
        let pos = (may.sees.stars p x.0 x.1).0 in
        f.owned.owned id v p me (keeps_star v p pos ∙ may.held p t)

    -- no place of another pass, and none that is free, is touched
    pub apart : (q k : ℕ) → get_or s.words q 0 ≡ k → k ≢ id → flips_touch q e.flips ≡ false
    apart q k word ne = by (flips_touch q e.flips) refl
      where
        by : (t : Bool) → flips_touch q e.flips ≡ t → flips_touch q e.flips ≡ false
        by false is = is
        by true is = absurd (ne (sym word ∙ (on_places q is).1))

    pub number : e.seq ≡ length (of_worker journal e.worker)
    number = may.seq ∙ (ap length (done ∙ mine_of_worker setup.round setup.places (length s.views) journal id f.written.entries) ∙ ap (λ (w : ℕ). length (of_worker journal w)) (sym is_id))

    pub firm_commit : (seen : ComplexView) → Firm setup (put_home s 0 (Journal b) id (committed v e seen)) (journal ++ e ∷ []) end c
    firm_commit seen =
        let u : PassView = committed v e seen in
        let old = f.owned.owned id v 0 me has in
        let pos = (f.owned.numbers id v me).1 in
        let there = within s.views id (Pass v) me in
        let l = length-set s.views id (Pass u) in
        let who = is_id in
        let w : Written setup (set s.words 0 0) (length s.views) (journal ++ e ∷ []) end = written_more setup s.words (set s.words 0 0) (length s.views) journal e now end f.written
        record { round_is = may.round_is; low = omega arith; high = omega arith; some = may.some; few = may.few; labels = λ p t. (on_places p t).0; faces = may.faces } number may.faces legal (λ p t. (on_places p t).0) (subst (λ (l : List JournalEntry). length l < 2 ^ 64) is_journal fits) in
        record {
          frame = f.frame;
          written = written_as setup (set s.words 0 0) (set s.words 0 0) (length s.views) (length (set s.views id (Pass u))) (journal ++ e ∷ []) end (omega arith) w;
          owned = moved setup.workers setup.places s.words s.views c id v u 0 0 f.owned me refl old.0 (inr old.1) (λ q ne. keeps_star u q (omega arith) ∙ (has_flipped e.flips v.items q ∙ sym (keeps_star v q (omega arith)))) (inr (refl, refl));
          housed = housed_book setup.places s.words s.homes journal (journal ++ e ∷ []) now end b (omega arith) is_journal
              (λ q q_pos free. home_unmoved setup s.words (length s.views) journal e now end q f.written legal (apart q 0 free (λ z. omega arith))) f.housed;
          knows = λ k x at. ⊎_elim (λ (t : (k ≡ id) × (Pass u ≡ Pass x)). subst (Knows setup (journal ++ e ∷ []) end) (same_pass u x t.1) (knows_commit setup journal now end v e seen legal (f.knows id v me)))
              (λ (t : (k ≢ id) × (get_elem? s.views k ≡ some (Pass x))). beside k x t.0 t.1)
              (seated s.views id k (Pass u) x at);
        }
      where
        beside : (k : ℕ) (x : PassView) → k ≢ id → get_elem? s.views k ≡ some (Pass x) → Knows setup (journal ++ e ∷ []) end x
        beside k x ne at = knows_beside setup s.words (length s.views) journal e now end x f.written legal
            (λ q q_pos h. apart q k (f.owned.owned k x q at (keeps_star x q q_pos ∙ h)).1 ne) (no_journal x.has_journal refl) (f.knows k x at)
          where
            no_journal : (h : Bool) → x.has_journal ≡ h → x.has_journal ≡ false
            no_journal false is = is
            no_journal true is = absurd (ne (sym (f.owned.owned k x 0 at is).1 ∙ (f.owned.owned id v 0 me has).1))

  -- a pass is handed out
  pub firm_pass_views : (id : ℕ) (me : get_elem? s.views id ≡ some (Main c)) → length c.back ≤ setup.workers → Firm setup record { words = s.words; homes = s.homes; views = more setup.workers setup.places s.words s.views c id f.owned me } journal now (one_more_pass c)
  firm_pass_views id me room =
      let l = length-more setup.workers setup.places s.words s.views c id f.owned me in
      record {
        frame = f.frame;
        written = written_as setup s.words s.words (length s.views) (length (more setup.workers setup.places s.words s.views c id f.owned me)) journal now (omega arith) f.written;
        owned = owned_more setup.workers setup.places s.words s.views c id f.owned me room;
        housed = f.housed;
        knows = λ k u at. ⊎_elim (λ t. f.knows k u t)
            (λ (t : (k ≡ length c.back) × (new_pass_view setup.workers setup.places s.words s.views c id f.owned me ≡ u)). subst (Knows setup journal now) t.1 (knows_new setup journal now c.start c.places (length c.back) f.frame.0 f.frame.1))
            (pass_at setup.workers setup.places s.words s.views c id f.owned me k u at);
      }

  -- a pass is taken back
  pub firm_back : (id other : ℕ) (v : PassView) (me : get_elem? s.views id ≡ some (Main c)) (was : get_elem? s.views other ≡ some (Pass v)) (empty : Empty v)
      → Firm setup record { words = s.words; homes = s.homes; views = less setup.workers setup.places s.words s.views c id other v f.owned me was empty } journal now (one_back c v)
  firm_back id other v me was empty =
      let l = length-less setup.workers setup.places s.words s.views c id other v f.owned me was empty in
      record {
        frame = f.frame;
        written = written_as setup s.words s.words (length s.views) (length (less setup.workers setup.places s.words s.views c id other v f.owned me was empty)) journal now (omega arith) f.written;
        owned = owned_less setup.workers setup.places s.words s.views c id other v f.owned me was empty;
        housed = f.housed;
        knows = λ k u at. f.knows k u (pass_was setup.workers setup.places s.words s.views c id other v f.owned me was empty k u at).1;
      }

-- a board is opened
pub firm_first : (setup : Setup) (words : List ℕ) (slots : List Slot) → Opens setup words slots → Firm setup (opening words slots (opener setup)) [] setup.start.value (first_main_view setup)
firm_first setup words slots o = record {
  frame = (refl, refl);
  written = written_first setup words slots 1 o;
  owned = owned_first setup words o.free;
  housed = housed_first setup words slots o;
  knows = λ k u at. alone (first_main_view setup) k u at;
}
