-- What each step of a pass keeps of what is known of tries.
use Rattle.std.proofs.Common.{◌≡◌, ◌≢◌, ℕ, ◌<◌, ◌≤◌, true, false, List, [], ◌∷◌, ◌++◌, length, sym, refl, ap, ◌∙◌, subst, ⊎_elim, arith, length-set, length-append}
use mathlib.Core.Option.{some}
use Rattle.std.specs.Prelude.{slice_index, slice_set}
use Rattle.std.specs.List.{AllByRecursion}
use lib.ListN.{get_elem?}
use Rattle.atomic_table.proofs.Lists.{at_set}
use Rattle.complex_core.specs.Complexes.{ComplexView}
use Rattle.flip_rules.specs.Entries.{JournalEntry}
use Rattle.flip_rules.specs.Journals.{mine, touches}
use Rattle.board_rule.specs.Items.{has_item}
use Rattle.board_rule.specs.Tries.{Try, won_try, lost_try, refused_at, noted_at, at_last, wins, has_won}
use Rattle.board_rule.specs.Views.{home_at, keeps, Empty, opened_by, lost_by, with_item, counted, with_journal, without_item, without_journal, committed}
use Rattle.board_rule.specs.Rule.{Written, Owned, Knows, Names, Noted, Marked, Holds, HasWon, Blames, Past, Board, Ruled}
use Rattle.board_rule.specs.declared.setup.Setup.{Setup}
use Rattle.board_rule.specs.Homes.{VersionedStar}
use Rattle.board_rule.specs.declared.kept.Kept.{Kept}
use Rattle.board_rule.specs.declared.view.PassView.{PassView}
use Rattle.board_rule.specs.declared.view.MainView.{MainView}
use Rattle.board_rule.specs.declared.view.View.{View}
use Rattle.board_rule.specs.declared.view.View.TheVariants.{Pass}
use Rattle.board_rule.proofs.Items.{off}
use Rattle.board_rule.proofs.Seats.{same_pass}
use Rattle.board_rule.proofs.TryingEntries.{every, mine_more, mine_same, touches_more}
use Rattle.board_rule.proofs.TryingNotes.{none_yet, noted_new, noted_lost, noted_more, noted_counted, noted_commit, noted_beside, claiming_items, claiming_count, fits_claiming, fits_first, fits_more}
use Rattle.board_rule.proofs.TryingMarks.{latest, headed, same_wins, noted_wins, names_longer, names_won, names_lost, names_noted, names_counted, marked_won, marked_lost, marked_noted, marked_counted, no_items, claiming_mark, claiming_place, holds_opened, holds_lost, holds_more, holds_counted, holds_journal, holds_left, holds_less, holds_commit}
use Rattle.board_rule.proofs.TryingBlames.{not_spent, won_later, won_counted, won_noted, won_holder, other_owner, won_step, blames_as, blames_won, blames_lost, blames_noted, blames_counted}
use Rattle.board_rule.proofs.Owning.{keeps_star}

-- what the rule says of tries: parts 5 to 9
pub record Tried (setup : Setup) (journal : List JournalEntry) (views : List View) (c : MainView) : Type 0 where
  pub holds : (w : ℕ) (v : PassView) → get_elem? views w ≡ some (Pass v) → Holds v
  pub past : (w : ℕ) (v : PassView) → get_elem? views w ≡ some (Pass v) → Past setup journal (length views) views c w v.mine v.tries
  pub past_gone : (w : ℕ) (k : Kept) → get_elem? c.back w ≡ some k → k.gone ≡ true → Past setup journal (length views) views c w k.mine k.tries

pub tried_of : (setup : Setup) (s : Board) (r : Ruled setup s) → Tried setup r.journal s.views r.main_view
tried_of setup s r = record { holds = λ w v at. (r.living w v at).holds; past = r.past; past_gone = r.past_gone }

-- of this pass the longer journal says what the journal says
pub record SameOf (setup : Setup) (journal longer : List JournalEntry) (w : ℕ) : Type 0 where
  pub entries : mine longer setup.round w ≡ mine journal setup.round w
  pub notes : (tries : List Try) → Noted setup journal w tries → Noted setup longer w tries

pub same_journal : (setup : Setup) (journal : List JournalEntry) (w : ℕ) → SameOf setup journal journal w
same_journal setup journal w = record { entries = refl; notes = λ tries n. n }

-- a pass with the same entries and tries
pub past_as : (setup : Setup) (journal longer : List JournalEntry) (seats more : ℕ) (views next : List View) (c d : MainView) (w : ℕ) (done : List JournalEntry) (tries : List Try)
    → SameOf setup journal longer w → seats ≤ more → ((p : ℕ) → touches journal p ≤ touches longer p) → ((o p : ℕ) → HasWon views c o p → HasWon next d o p) → Past setup journal seats views c w done tries → Past setup longer more next d w done tries
past_as setup journal longer seats more views next c d w done tries same le grows won h = record {
  entries = h.entries ∙ sym same.entries;
  names = every (Names seats w journal) (Names more w longer) (λ t n. names_longer seats more w journal longer t le grows n) tries h.names;
  notes = same.notes tries h.notes;
  marks = h.marks;
  few = h.few;
  blames = every (Blames views c) (Blames next d) (λ t b. blames_as views next c d t won b) tries h.blames;
}

-- one pass changes its view, and the journal may be longer
tried_step : (setup : Setup) (words : List ℕ) (journal longer : List JournalEntry) (views : List View) (c : MainView) (id : ℕ) (v u : PassView) → Owned setup.workers setup.places words views c → get_elem? views id ≡ some (Pass v)
    → ((p : ℕ) → touches journal p ≤ touches longer p) → ((w : ℕ) → w ≢ id → SameOf setup journal longer w) → ((q : ℕ) → has_won v.tries q ≡ true → has_won u.tries q ≡ true) → Holds u → Past setup longer (length views) views c id u.mine u.tries
    → Tried setup journal views c → Tried setup longer (slice_set views id (Pass u)) c
tried_step setup words journal longer views c id v u o me touched same grows holds past r =
    let next : List View = slice_set views id (Pass u) in
    let seats : length views ≤ length next = omega (arith, length-set views id (Pass u)) in
    let won : (k p : ℕ) → HasWon views c k p → HasWon next c k p = λ k p. won_step views c id v u k p me grows in
    record {
      holds = λ w z at. ⊎_elim (λ (t : (w ≡ id) × (Pass u ≡ Pass z)). subst Holds (same_pass u z t.1) holds) (λ (t : (w ≢ id) × (get_elem? views w ≡ some (Pass z))). r.holds w z t.1) (at_set views id w (Pass u) (Pass z) at);
      past = λ w z at. ⊎_elim
          (λ (t : (w ≡ id) × (Pass u ≡ Pass z)). subst (λ (y : ℕ × PassView). Past setup longer (length next) next c y.0 y.1.mine y.1.tries) (λ i. ((sym t.0) i, same_pass u z t.1 i))
          (past_as setup longer longer (length views) (length next) views next c c id u.mine u.tries (same_journal setup longer id) seats (λ p. omega arith) won past))
          (λ (t : (w ≢ id) × (get_elem? views w ≡ some (Pass z))). past_as setup journal longer (length views) (length next) views next c c w z.mine z.tries (same w t.0) seats touched won (r.past w z t.1))
          (at_set views id w (Pass u) (Pass z) at);
      past_gone = λ w k at gone. past_as setup journal longer (length views) (length next) views next c c w k.mine k.tries (same w (not_spent views w id v (o.gone w k at gone) me)) seats touched won (r.past_gone w k at gone);
    }

-- a step of the pass v at the seat id
module _ (setup : Setup) (words : List ℕ) (journal : List JournalEntry) (now : ComplexView) (views : List View) (c : MainView) (written : Written setup words (length views) journal now) (o : Owned setup.workers setup.places words views c) (r : Tried setup journal views c)
    (id : ℕ) (v : PassView) (me : get_elem? views id ≡ some (Pass v)) (knew : Knows setup journal now v) where
  step_here : (u : PassView) → ((q : ℕ) → has_won v.tries q ≡ true → has_won u.tries q ≡ true) → Holds u → Past setup journal (length views) views c id u.mine u.tries → Tried setup journal (slice_set views id (Pass u)) c
  step_here u grows holds past = tried_step setup words journal journal views c id v u o me (λ p. omega arith) (λ w ne. same_journal setup journal w) grows holds past r

  -- who holds a place that isn't free has won it
  won_owner : (p k : ℕ) → 0 < p → slice_index words p ≡ k → k ≢ 0 → HasWon views c k p
  won_owner p k pos word nz = let t = o.owners p k word (omega arith) in won_holder views c k p t.0 t.1 (r.holds k t.0 t.1) (r.past k t.0 t.1).marks pos t.2

  -- a first claim is won
  pub tried_opened : (p : ℕ) (x : VersionedStar) (k : ComplexView) → Empty v → x ≡ home_at now journal p → Tried setup journal (slice_set views id (Pass (opened_by v p x k))) c
  tried_opened p x k empty is =
      let h = r.past id v me in
      let n : ℕ = length v.mine in
      let t : Try = won_try p x n in
      let few = h.few in
      let counts : length (mine journal setup.round id) ≡ n = ap length (sym h.entries) in
      step_here (opened_by v p x k) (λ q. won_later t v.tries q) (holds_opened v p x k (no_items setup journal now v knew empty) h.few)
      record {
        entries = h.entries;
        names = (names_won (length views) id journal now p n x is, h.names);
        notes = noted_new setup journal id t v.tries (fits_first setup words (length views) journal now id p n x written is counts) (none_yet setup words (length views) journal now id t written counts) h.notes;
        marks = (marked_won p n x, h.marks);
        few = omega arith;
        blames = (blames_won views c p n x, h.blames);
      }

  -- a first claim is refused, and names k
  pub tried_lost : (p k : ℕ) → 0 < p → Empty v → slice_index words p ≡ k → k ≢ 0 → Tried setup journal (slice_set views id (Pass (lost_by v p k))) c
  tried_lost p k pos empty word nz =
      let h = r.past id v me in
      let n : ℕ = length v.mine in
      let t : Try = lost_try p k n in
      let few = h.few in
      step_here (lost_by v p k) (λ q. won_later t v.tries q) (holds_lost v p k (no_items setup journal now v knew empty) h.marks (r.holds id v me))
      record {
        entries = h.entries;
        names = (names_lost (length views) id journal p k n (other_owner setup.workers setup.places words views c id v p k o me (empty p) word nz), h.names);
        notes = noted_lost setup journal id t v.tries refl h.notes;
        marks = (marked_lost p k n, h.marks);
        few = omega arith;
        blames = (blames_lost views c p k n (won_owner p k pos word nz), h.blames);
      }

  -- a later claim of a place from 1 is won
  pub tried_item : (p : ℕ) (x : VersionedStar) (k : ComplexView) → 0 < p → keeps v p ≡ false → v.claiming ≡ true → x ≡ home_at now journal p → Tried setup journal (slice_set views id (Pass (with_item v p x k))) c
  tried_item p x k pos free claiming is =
      let h = r.past id v me in
      let held = r.holds id v me in
      let cl = held.claims claiming in
      let t = headed v.tries cl.won in
      let won = claiming_mark v t.0 t.1 cl t.2 in
      let other : t.0.place ≢ p = λ e. off (sym free ∙ (keeps_star v p pos ∙ (ap (λ (q : ℕ). has_item v.items q) (sym e) ∙ claiming_place v t.0 t.1 cl t.2 h.marks))) in
      let marks = subst (AllByRecursion Marked) t.2 h.marks in
      let counts = claiming_count setup journal id v t.0 t.1 h.entries cl t.2 in
      let few = h.few in
      step_here (with_item v p x k) (λ q. won_noted p x v.tries q) (holds_more v p x k t.0 t.1 t.2 claiming held)
      record {
        entries = h.entries;
        names = latest (Names (length views) id journal) (noted_at p x) v.tries (λ u n. names_noted (length views) id journal p x u n) h.names;
        notes = subst (λ (l : List Try). Noted setup journal id (at_last (noted_at p x) l)) (sym t.2)
            (noted_more setup journal id p x t.0 t.1 (fits_more setup words (length views) journal now id p x t.0 written is (claiming_items setup journal now v t.0 t.1 knew cl t.2) counts)
            (none_yet setup words (length views) journal now id t.0 written counts) (subst (Noted setup journal id) t.2 h.notes));
        marks = subst (λ (l : List Try). AllByRecursion Marked (at_last (noted_at p x) l)) (sym t.2) (marked_noted p x t.0 won other marks.0, marks.1);
        few = omega (arith, noted_wins p x v.tries);
        blames = latest (Blames views c) (noted_at p x) v.tries (λ u b. blames_noted views c p x u b) h.blames;
      }

  -- a later claim is refused, and names k
  pub tried_counted : (p k : ℕ) → keeps v p ≡ false → slice_index words p ≡ k → k ≢ 0 → Tried setup journal (slice_set views id (Pass (counted v p k))) c
  tried_counted p k free word nz =
      let h = r.past id v me in
      let other = other_owner setup.workers setup.places words views c id v p k o me free word nz in
      let few = h.few in
      step_here (counted v p k) (λ q. won_counted p k v.tries q) (holds_counted v p k (r.holds id v me))
      record {
        entries = h.entries;
        names = latest (Names (length views) id journal) (refused_at p k) v.tries (λ u n. names_counted (length views) id journal p k u other n) h.names;
        notes = noted_counted setup journal id p k v.tries h.notes;
        marks = latest Marked (refused_at p k) v.tries (λ u m. marked_counted p k u m) h.marks;
        few = omega (arith, same_wins p k v.tries);
        blames = latest (Blames views c) (refused_at p k) v.tries (λ u b. blames_counted views c p k u (λ pos. won_owner p k pos word nz) b) h.blames;
      }

  -- the journal is taken
  pub tried_journal : (book : List JournalEntry) → Tried setup journal (slice_set views id (Pass (with_journal v book))) c
  tried_journal book = step_here (with_journal v book) (λ q h. h) (holds_journal v book (r.holds id v me)) (r.past id v me)

  -- and given back
  pub tried_left : Tried setup journal (slice_set views id (Pass (without_journal v))) c
  tried_left = step_here (without_journal v) (λ q h. h) (holds_left v (r.holds id v me)) (r.past id v me)

  -- a place from 1 is given back
  pub tried_less : (p : ℕ) → Tried setup journal (slice_set views id (Pass (without_item v p))) c
  tried_less p = step_here (without_item v p) (λ q h. h) (holds_less v p (r.holds id v me)) (r.past id v me)

  -- the pass has fewer entries than won marks
  pub commit_few : (e : JournalEntry) → v.claiming ≡ true → length (v.mine ++ e ∷ []) ≤ wins v.tries
  commit_few e claiming = let fewer = ((r.holds id v me).claims claiming).fewer in omega (arith, length-append v.mine (e ∷ []))

  -- an entry is written
  pub tried_commit : (e : JournalEntry) (k : ComplexView) → e.round ≡ setup.round → e.worker ≡ v.worker → e.seq ≡ length v.mine → v.claiming ≡ true → Tried setup (journal ++ e ∷ []) (slice_set views id (Pass (committed v e k))) c
  tried_commit e k round by seq claiming =
      let h = r.past id v me in
      let held = r.holds id v me in
      let cl = held.claims claiming in
      let t = headed v.tries cl.won in
      let longer : List JournalEntry = journal ++ e ∷ [] in
      let mine_id : e.worker ≡ id = by ∙ (o.numbers id v me).0 in
      let apart : (w : ℕ) → w ≢ id → e.worker ≢ w = λ w ne y. ne (sym y ∙ mine_id) in
      tried_step setup words journal longer views c id v (committed v e k) o me (touches_more journal e)
      (λ w ne. record { entries = mine_same journal e setup.round w (apart w ne); notes = λ tries n. noted_beside setup journal e w tries (apart w ne) n })
      (λ q g. g) (holds_commit v e k held)
      record {
        entries = ap (λ (l : List JournalEntry). l ++ e ∷ []) h.entries ∙ sym (mine_more journal e setup.round id round mine_id);
        names = every (Names (length views) id journal) (Names (length views) id longer) (λ u n. names_longer (length views) (length views) id journal longer u (omega arith) (touches_more journal e) n) v.tries h.names;
        notes = subst (Noted setup longer id) (sym t.2)
            (noted_commit setup journal e id t.0 t.1 (claiming_mark v t.0 t.1 cl t.2) (seq ∙ (ap length h.entries ∙ claiming_count setup journal id v t.0 t.1 h.entries cl t.2))
            (fits_claiming setup words (length views) journal now id v t.0 t.1 written knew h.entries cl t.2) (subst (Noted setup journal id) t.2 h.notes));
        marks = h.marks;
        few = commit_few e claiming;
        blames = h.blames;
      }
      r
