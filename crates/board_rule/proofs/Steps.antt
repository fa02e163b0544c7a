-- The rule holds after each kind of step.
use Rattle.std.proofs.Common.{◌≡◌, ◌≢◌, ℕ, ◌+◌, ◌<◌, ◌≤◌, ◌^◌, true, false, List, [], ◌∷◌, ◌++◌, length, get_or, sym, refl, ◌∙◌}
use mathlib.Core.Option.{some}
use lib.ListN.{get_elem?}
use Rattle.atomic_table.specs.Table.{opening}
use Rattle.complex_core.specs.Complexes.{ComplexView}
use Rattle.flip_rules.specs.Entries.{JournalEntry}
use Rattle.core_laws.specs.Cores.{after}
use Rattle.board_rule.specs.Books.{Book}
use Rattle.board_rule.specs.Items.{item}
use Rattle.board_rule.specs.Views.{home_at, keeps, Empty, opened_by, lost_by, with_item, counted, with_journal, without_item, without_journal, committed, one_more_pass, one_back}
use Rattle.board_rule.specs.Rule.{Board, Ruled, opener, first_main_view}
use Rattle.board_rule.specs.Ends.{Opens, Commits}
use Rattle.board_rule.specs.Steps.{looked, taken, put_home}
use Rattle.board_rule.specs.declared.setup.Setup.{Setup}
use Rattle.board_rule.specs.Homes.{VersionedStar}
use Rattle.board_rule.specs.declared.data.Slot.{Slot}
use Rattle.board_rule.specs.declared.data.Slot.TheVariants.{Journal, Home}
use Rattle.board_rule.specs.declared.view.PassView.{PassView}
use Rattle.board_rule.specs.declared.view.MainView.{MainView}
use Rattle.board_rule.specs.declared.view.View.TheVariants.{Main, Pass}
use Rattle.board_rule.proofs.Owning.{more, less}
use Rattle.board_rule.proofs.Knowing.{knows_same}
use Rattle.board_rule.proofs.Seats.{one_view, same_main, pass_main}
use Rattle.board_rule.proofs.TryingSteps.{Tried, tried_of, tried_opened, tried_lost, tried_item, tried_counted, tried_less, tried_journal, tried_left, tried_commit}
use Rattle.board_rule.proofs.TryingSeats.{tried_first, tried_handed, tried_back}
use Rattle.atomic_table.proofs.Lists.{set_else}
use Rattle.board_rule.proofs.Firm.{Firm, firm_of, firm_looked, firm_opened, firm_more, firm_journal, firm_less, firm_left, firm_commit, firm_pass_views, firm_back, firm_first}

-- the rule holds with this journal
abbrev pub Meets : Setup → Board → List JournalEntry → Type 0
Meets setup s journal = (r : Ruled setup s) × (r.journal ≡ journal)

pub ruled : (setup : Setup) (s : Board) (journal : List JournalEntry) (now : ComplexView) (c : MainView) → Firm setup s journal now c → Tried setup journal s.views c → Meets setup s journal
ruled setup s journal now c f t = (
  record {
    journal = journal;
    now = now;
    main_view = c;
    frame = f.frame;
    written = f.written;
    owned = f.owned;
    housed = f.housed;
    living = λ w v at. record { knows = f.knows w v at; holds = t.holds w v at };
    past = t.past;
    past_gone = t.past_gone;
  },
  refl,
)

module _ (setup : Setup) (s : Board) (r : Ruled setup s) where
  f : Firm setup s r.journal r.now r.main_view
  f = firm_of setup s r

  t : Tried setup r.journal s.views r.main_view
  t = tried_of setup s r

  -- main is seat 0, and the rule knows what it knows
  pub the_main_view : (id : ℕ) (c : MainView) → get_elem? s.views id ≡ some (Main c) → r.main_view ≡ c
  the_main_view id c me = same_main r.main_view c (one_view s.views 0 id (Main r.main_view) (Main c) (sym (r.owned.only id c me)) r.owned.main me)

  module _ (p id : ℕ) (v : PassView) (me : get_elem? s.views id ≡ some (Pass v)) where
    abbrev o : ℕ
    o = get_or s.words p 0

    abbrev x : VersionedStar
    x = home_at r.now r.journal p

    pub opened : (seen : ComplexView) → 0 < p → p ≤ setup.places → o ≡ 0 → Empty v → Meets setup (taken s p id (opened_by v p x seen)) r.journal
    opened seen pos near free empty = ruled setup (taken s p id (opened_by v p x seen)) r.journal r.now r.main_view (firm_opened setup s r.journal r.now r.main_view f p id v seen me pos near free) (tried_opened setup s.words r.journal r.now s.views r.main_view r.written r.owned t id v me (f.knows id v me) p x seen empty refl)

    pub lost : 0 < p → o ≢ 0 → Empty v → Meets setup (looked s id (lost_by v p o)) r.journal
    lost pos nz empty = ruled setup (looked s id (lost_by v p o)) r.journal r.now r.main_view
        (firm_looked setup s r.journal r.now r.main_view f id v (lost_by v p o) me refl (λ q. refl) (knows_same setup r.journal r.now v (lost_by v p o) refl refl refl refl refl (f.knows id v me))) (tried_lost setup s.words r.journal r.now s.views r.main_view r.written r.owned t id v me (f.knows id v me) p o pos empty refl nz)

    pub won_more : (seen : ComplexView) → 0 < p → p ≤ setup.places → o ≡ 0 → keeps v p ≡ false → v.claiming ≡ true → Meets setup (taken s p id (with_item v p x seen)) r.journal
    won_more seen pos near free hasn't claiming = ruled setup (taken s p id (with_item v p x seen)) r.journal r.now r.main_view (firm_more setup s r.journal r.now r.main_view f p id v seen me pos near free) (tried_item setup s.words r.journal r.now s.views r.main_view r.written r.owned t id v me (f.knows id v me) p x seen pos hasn't claiming refl)

    pub refused : o ≢ 0 → keeps v p ≡ false → Meets setup (looked s id (counted v p o)) r.journal
    refused nz hasn't = ruled setup (looked s id (counted v p o)) r.journal r.now r.main_view
        (firm_looked setup s r.journal r.now r.main_view f id v (counted v p o) me refl (λ q. refl) (knows_same setup r.journal r.now v (counted v p o) refl refl refl refl refl (f.knows id v me))) (tried_counted setup s.words r.journal r.now s.views r.main_view r.written r.owned t id v me (f.knows id v me) p o hasn't refl nz)

    pub released : (y : VersionedStar) → length s.homes ≡ setup.places + 1 → 0 < p → keeps v p ≡ true → item v.items p ≡ some y → Meets setup (put_home s p (Home y) id (without_item v p)) r.journal
    released y wide pos has knows = ruled setup (put_home s p (Home y) id (without_item v p)) r.journal r.now r.main_view (firm_less setup s r.journal r.now r.main_view f p id v y wide me pos has knows) (tried_less setup s.words r.journal r.now s.views r.main_view r.written r.owned t id v me (f.knows id v me) p)

  module _ (id : ℕ) (v : PassView) (me : get_elem? s.views id ≡ some (Pass v)) where
    pub fetched : get_or s.words 0 0 ≡ 0 → Meets setup (taken s 0 id (with_journal v r.journal)) r.journal
    fetched free = ruled setup (taken s 0 id (with_journal v r.journal)) r.journal r.now r.main_view (firm_journal setup s r.journal r.now r.main_view f id v me free) (tried_journal setup s.words r.journal r.now s.views r.main_view r.written r.owned t id v me (f.knows id v me) r.journal)

    pub left : (b : Book) → length s.homes ≡ setup.places + 1 → v.has_journal ≡ true → b.entries ≡ v.journal → Meets setup (put_home s 0 (Journal b) id (without_journal v)) r.journal
    left b wide has as_was = ruled setup (put_home s 0 (Journal b) id (without_journal v)) r.journal r.now r.main_view (firm_left setup s r.journal r.now r.main_view f id v b wide me has as_was) (tried_left setup s.words r.journal r.now s.views r.main_view r.written r.owned t id v me (f.knows id v me))

    abbrev pub now_after : JournalEntry → ComplexView
    now_after e = after r.now e.flips

    pub wrote : (b : Book) (e : JournalEntry) (seen : ComplexView) → length s.homes ≡ setup.places + 1 → v.has_journal ≡ true → b.entries ≡ v.journal ++ e ∷ [] → length b.entries < 2 ^ 64 → Commits setup v e → Meets setup (put_home s 0 (Journal b) id (committed v e seen)) (r.journal ++ e ∷ [])
    wrote b e seen wide has writes fits may = ruled setup (put_home s 0 (Journal b) id (committed v e seen)) (r.journal ++ e ∷ []) (now_after e) r.main_view
        (firm_commit setup s r.journal r.now r.main_view f id v b e wide me has writes fits may (r.past id v me).entries seen) (tried_commit setup s.words r.journal r.now s.views r.main_view r.written r.owned t id v me (f.knows id v me) e seen may.round_is may.worker may.seq may.claiming)

  pub handed_out : (id : ℕ) (me : get_elem? s.views id ≡ some (Main r.main_view)) → length r.main_view.back ≤ setup.workers → Meets setup record { words = s.words; homes = s.homes; views = more setup.workers setup.places s.words s.views r.main_view id r.owned me } r.journal
  handed_out id me room = ruled setup record { words = s.words; homes = s.homes; views = more setup.workers setup.places s.words s.views r.main_view id r.owned me } r.journal r.now (one_more_pass r.main_view) (firm_pass_views setup s r.journal r.now r.main_view f id me room) (tried_handed setup s.words r.journal r.now s.views r.main_view r.written r.owned t id r.main_view me)

  -- main is no pass
  apart_from : (id other : ℕ) (v : PassView) → get_elem? s.views id ≡ some (Main r.main_view) → get_elem? s.views other ≡ some (Pass v) → ¬ (other ≡ id)
  apart_from id other v me was e = pass_main v r.main_view (one_view s.views other id (Pass v) (Main r.main_view) e was me)

  pub taken_back : (id other : ℕ) (v : PassView) (me : get_elem? s.views id ≡ some (Main r.main_view)) (was : get_elem? s.views other ≡ some (Pass v)) (empty : Empty v)
      → Meets setup record { words = s.words; homes = s.homes; views = less setup.workers setup.places s.words s.views r.main_view id other v r.owned me was empty } r.journal
  taken_back id other v me was empty = ruled setup record { words = s.words; homes = s.homes; views = less setup.workers setup.places s.words s.views r.main_view id other v r.owned me was empty } r.journal r.now (one_back r.main_view v) (firm_back setup s r.journal r.now r.main_view f id other v me was empty) (tried_back setup s.words r.journal s.views r.main_view r.owned t id r.main_view me other v (apart_from id other v me was) (set_else s.views id other (Main (one_back r.main_view v)) (apart_from id other v me was) ∙ was))

pub first : (setup : Setup) (words : List ℕ) (slots : List Slot) → Opens setup words slots → Meets setup (opening words slots (opener setup)) []
first setup words slots op = ruled setup (opening words slots (opener setup)) [] setup.start.value (first_main_view setup) (firm_first setup words slots op) (tried_first setup)
