-- The laws of a board's steps.
use Rattle.std.proofs.Common.{◌≡◌, ◌≢◌, ℕ, zero, suc, ◌+◌, ◌-◌, ◌<◌, ◌≤◌, true, false, nat_le, List, [], ◌∷◌, ◌++◌, length, get_or, set, replicate, Result, Ok, Err, Some, sym, refl, ap, ◌∙◌, subst, arith, eq-eqb, append_assoc, length-set}
use Rattle.std.proofs.lemmas.Bool.Decides.{nat_tests}
use Rattle.std.proofs.lemmas.List.{append-nil, length-replicate, get_or-set_same}
use mathlib.Core.Option.{some, some-injective}
use lib.ListN.{get_elem?}
use lib.Seq.{set-get_or}
use Rattle.complex_core.specs.Labels.{has}
use Rattle.complex_core.specs.Complexes.{ComplexView}
use Rattle.complex_core.proofs.Laws.{or_left, or_right}
use Rattle.flip_rules.specs.Flips.{broken_rule, flipped, replay}
use Rattle.flip_rules.specs.Entries.{JournalEntry}
use Rattle.flip_rules.specs.Journals.{mine, flat, flip_touches}
use Rattle.flip_rules.specs.declared.flip.Flip.{Flip}
use Rattle.flip_rules.specs.declared.flip.Illegal.{Illegal}
use Rattle.flip_rules.specs.declared.flip.Illegal.TheVariants.{Shape}
use Rattle.flip_rules.proofs.Replays.{first_flip, replay_then}
use Rattle.star_laws.specs.Stars.{flips_touch}
use Rattle.core_laws.specs.declared.event.Event.TheVariants as event
use Rattle.core_laws.specs.declared.event.Told.TheVariants as told
use Rattle.core_laws.specs.declared.event.Refused.TheVariants as refusal
use Rattle.core_laws.specs.Cores.{after, Core, IsWorker, places_of, owner_of, pending_of, with_pending, complex_of, seen_by, of_worker}
use Rattle.core_laws.specs.Steps.{Step, FlipHeld, next_entry}
use Rattle.core_laws.proofs.Replays.{after_is}
use Rattle.board_rule.specs.Books.{Book}
use Rattle.board_rule.specs.Views.{home_at, keeps, opened_by, lost_by, with_item, counted, with_journal, without_item, without_journal, committed, one_more_pass, one_back, newcomer}
use Rattle.board_rule.specs.Rule.{Board, Ruled, core_of}
use Rattle.board_rule.specs.Steps.{looked, taken, put_home, IsAt, core_at, GoesOver, FlipsMade, IsCommit, Writes, OpeningLaw, FirstWonLaw, FirstRefusedLaw, LaterWonLaw, JournalWonLaw, LaterRefusedLaw, ReleaseLaw, LeaveLaw, CommitLaw, HandOutLaw, TakeBackLaw, ClosedLaw}
use Rattle.board_rule.specs.declared.setup.Setup.{Setup}
use Rattle.board_rule.specs.Homes.{VersionedStar}
use Rattle.board_rule.specs.declared.data.Slot.{Slot}
use Rattle.board_rule.specs.declared.data.Slot.TheVariants.{Journal, Home}
use Rattle.board_rule.specs.declared.view.PassView.{PassView}
use Rattle.board_rule.specs.declared.view.MainView.{MainView}
use Rattle.board_rule.specs.declared.view.View.TheVariants.{Main, Pass, Spent}
use Rattle.board_rule.proofs.Items.{off}
use Rattle.board_rule.proofs.Seats.{within, one_pass}
use Rattle.board_rule.proofs.Writing.{nothing_pending}
use Rattle.board_rule.proofs.Firm.{firm_of, legal, is_id, on_places, number}
use Rattle.board_rule.proofs.Keeps.{closes}
use Rattle.board_rule.proofs.Steps.{Meets, the_main_view, opened, lost, won_more, refused, released, fetched, left, now_after, wrote, handed_out, taken_back, first}

-- a state that meets the rule with this journal, and what is so of its core
over : (setup : Setup) (s t : Board) (r : Ruled setup s) (so : Core → Core → Type 0) (journal : List JournalEntry) → Meets setup t journal → so (core_at setup s r) (core_of setup t.words journal) → GoesOver setup s t r so
over setup s t r so journal m h = (m.0, subst (λ (j : List JournalEntry). so (core_at setup s r) (core_of setup t.words j)) (sym m.1) h)

-- the state after is the one that the step makes
from : (setup : Setup) (s t made : Board) (r : Ruled setup s) (so : Core → Core → Type 0) → t ≡ made → GoesOver setup s made r so → GoesOver setup s t r so
from setup s t made r so is g = subst (λ (u : Board). GoesOver setup s u r so) (sym is) g

module _ (setup : Setup) (s : Board) (r : Ruled setup s) where
  abbrev core : Core
  core = core_at setup s r

  -- a seat of a pass is a worker's number
  is_worker : (id : ℕ) (v : PassView) → IsAt s id v → IsWorker core id
  is_worker id v me = let near = within s.views id (Pass v) me in let few = r.owned.few in record { low = (r.owned.numbers id v me).1; high = omega (arith, length-replicate {A = List Flip} setup.workers [], near, few) }

  place_there : (p : ℕ) → p ≤ setup.places → p ≤ places_of core
  place_there p near = let l = r.owned.long in omega (arith, l, near)

  -- a word that isn't 0 names another pass, where this one has not the place
  another : (id p : ℕ) (v : PassView) → IsAt s id v → keeps v p ≡ false → get_or s.words p 0 ≢ 0 → get_or s.words p 0 ≢ id
  another id p v me hasn't nz e =
      let t = r.owned.owners p (get_or s.words p 0) refl (omega arith) in
      absurd (off (sym hasn't ∙ (ap (λ (u : PassView). keeps u p) (one_pass s.views id (get_or s.words p 0) v t.0 (sym e) me t.1) ∙ t.2)))

  claim : (id p : ℕ) (v u : PassView) → IsAt s id v → p ≤ setup.places → get_or s.words p 0 ≡ 0 → Meets setup (taken s p id u) r.journal → GoesOver setup s (taken s p id u) r (λ c next. Step c (event.Claim id p) (Ok told.Claimed) next)
  claim id p v u me near free m = over setup s (taken s p id u) r (λ c next. Step c (event.Claim id p) (Ok told.Claimed) next) r.journal m (is_worker id v me, (place_there p near, free, refl))

  refusal_of : (id p : ℕ) (v u : PassView) → IsAt s id v → p ≤ setup.places → keeps v p ≡ false → get_or s.words p 0 ≢ 0 → Meets setup (looked s id u) r.journal
      → GoesOver setup s (looked s id u) r (λ c next. Step c (event.Claim id p) (Err (refusal.Busy p (get_or s.words p 0))) next)
  refusal_of id p v u me near hasn't nz m = over setup s (looked s id u) r (λ c next. Step c (event.Claim id p) (Err (refusal.Busy p (get_or s.words p 0))) next) r.journal m
      ((is_worker id v me, (refl, place_there p near, refl, nz, another id p v me hasn't nz)), refl)

  release : (id p : ℕ) (v u : PassView) (x : Slot) → IsAt s id v → keeps v p ≡ true → Meets setup (put_home s p x id u) r.journal → GoesOver setup s (put_home s p x id u) r (λ c next. Step c (event.Release id p) (Ok told.Released) next)
  release id p v u x me has m = let old = r.owned.owned id v p me has in over setup s (put_home s p x id u) r (λ c next. Step c (event.Release id p) (Ok told.Released) next) r.journal m
      (is_worker id v me, (place_there p old.0, old.1, (λ _. nothing_pending setup.workers (id - 1)), refl))

  -- the star that lies at home is the one now
  same_home : (p : ℕ) (x : VersionedStar) → 0 < p → p ≤ setup.places → get_or s.words p 0 ≡ 0 → get_elem? s.homes p ≡ some (some (Home x)) → home_at r.now r.journal p ≡ x
  same_home p x pos near free lies = one_home (home_at r.now r.journal p) x (some-injective (Home (home_at r.now r.journal p)) (Home x) (some-injective (some (Home (home_at r.now r.journal p))) (some (Home x)) (sym (r.housed.stars p pos near free) ∙ lies)))
    where
      one_home : (a b : VersionedStar) → Home a ≡ Home b → a ≡ b
      one_home a b e = cc

  -- and so is the journal
  same_entries : (b : Book) → get_or s.words 0 0 ≡ 0 → get_elem? s.homes 0 ≡ some (some (Journal b)) → r.journal ≡ b.entries
  same_entries b free lies =
      let j = r.housed.book free in
      let a : Book = record { entries = r.journal; room = j.0 } in
      ap (λ (x : Book). x.entries) (one_book a b (some-injective (Journal a) (Journal b) (some-injective (some (Journal a)) (some (Journal b)) (sym j.1 ∙ lies))))
    where
      one_book : (a b : Book) → Journal a ≡ Journal b → a ≡ b
      one_book a b e = cc

pub opening_law : OpeningLaw
opening_law setup words slots o =
    let m = first setup words slots o in
    (m.0, ap (λ (j : List JournalEntry). core_of setup words j) m.1 ∙ ap (λ (ws : List ℕ). core_of setup ws []) o.free)

pub first_won : FirstWonLaw
first_won setup s t r id p k =
    let so : Core → Core → Type 0 = λ c next. Step c (event.Claim id p) (Ok told.Claimed) next in
    let same = same_home setup s r p k.home k.low k.high k.free k.lies in
    from setup s t (taken s p id (opened_by k.pass_view p k.home k.seen)) r so k.after
    (subst (λ (x : VersionedStar). GoesOver setup s (taken s p id (opened_by k.pass_view p x k.seen)) r so) same
    (claim setup s r id p k.pass_view (opened_by k.pass_view p (home_at r.now r.journal p) k.seen) k.at k.high k.free (opened setup s r p id k.pass_view k.at k.seen k.low k.high k.free k.empty)))

pub first_refused : FirstRefusedLaw
first_refused setup s t r id p k =
    let u : PassView = lost_by k.pass_view p (get_or s.words p 0) in
    from setup s t (looked s id u) r (λ c next. Step c (event.Claim id p) (Err (refusal.Busy p (get_or s.words p 0))) next) k.after
    (refusal_of setup s r id p k.pass_view u k.at k.high (k.empty p) k.busy (lost setup s r p id k.pass_view k.at k.low k.busy k.empty))

pub later_won : LaterWonLaw
later_won setup s t r id p k =
    let so : Core → Core → Type 0 = λ c next. Step c (event.Claim id p) (Ok told.Claimed) next in
    let same = same_home setup s r p k.home k.low k.high k.free k.lies in
    from setup s t (taken s p id (with_item k.pass_view p k.home k.seen)) r so k.after
    (subst (λ (x : VersionedStar). GoesOver setup s (taken s p id (with_item k.pass_view p x k.seen)) r so) same
    (claim setup s r id p k.pass_view (with_item k.pass_view p (home_at r.now r.journal p) k.seen) k.at k.high k.free (won_more setup s r p id k.pass_view k.at k.seen k.low k.high k.free k.apart k.claiming)))

pub journal_won : JournalWonLaw
journal_won setup s t r id k =
    let so : Core → Core → Type 0 = λ c next. Step c (event.Claim id 0) (Ok told.Claimed) next in
    from setup s t (taken s 0 id (with_journal k.pass_view k.book.entries)) r so k.after
    (subst (λ (j : List JournalEntry). GoesOver setup s (taken s 0 id (with_journal k.pass_view j)) r so) (same_entries setup s r k.book k.free k.lies)
    (claim setup s r id 0 k.pass_view (with_journal k.pass_view r.journal) k.at (omega arith) k.free (fetched setup s r id k.pass_view k.at k.free)))

pub later_refused : LaterRefusedLaw
later_refused setup s t r id p k =
    let u : PassView = counted k.pass_view p (get_or s.words p 0) in
    from setup s t (looked s id u) r (λ c next. Step c (event.Claim id p) (Err (refusal.Busy p (get_or s.words p 0))) next) k.after
    (refusal_of setup s r id p k.pass_view u k.at k.high k.apart k.busy (refused setup s r p id k.pass_view k.at k.busy k.apart))

pub release_law : ReleaseLaw
release_law setup s t r id p wide k =
    let u : PassView = without_item k.pass_view p in
    from setup s t (put_home s p (Home k.home) id u) r (λ c next. Step c (event.Release id p) (Ok told.Released) next) k.after
    (release setup s r id p k.pass_view u (Home k.home) k.at k.held (released setup s r p id k.pass_view k.at k.home wide k.low k.held k.known))

pub leave_law : LeaveLaw
leave_law setup s t r id wide k =
    let u : PassView = without_journal k.pass_view in
    from setup s t (put_home s 0 (Journal k.book) id u) r (λ c next. Step c (event.Release id 0) (Ok told.Released) next) k.after
    (release setup s r id 0 k.pass_view u (Journal k.book) k.at k.held (left setup s r id k.pass_view k.at k.book wide k.held k.same))

pub hand_out_law : HandOutLaw
hand_out_law setup s t r id k =
    let so : Core → Core → Type 0 = λ c next. next ≡ c in
    from setup s t record { words = s.words; homes = s.homes; views = set s.views id (Main (one_more_pass k.main_view)) ++ Pass (newcomer k.main_view.start k.main_view.places (length k.main_view.back)) ∷ [] } r so k.after
    (subst
    (λ (d : MainView). get_elem? s.views id ≡ some (Main d) → length d.back ≤ setup.workers → GoesOver setup s record { words = s.words; homes = s.homes; views = set s.views id (Main (one_more_pass d)) ++ Pass (newcomer d.start d.places (length d.back)) ∷ [] } r so)
    (the_main_view setup s r id k.main_view k.at)
    (λ me room. over setup s record { words = s.words; homes = s.homes; views = set s.views id (Main (one_more_pass r.main_view)) ++ Pass (newcomer r.main_view.start r.main_view.places (length r.main_view.back)) ∷ [] } r so r.journal (handed_out setup s r id me room) refl) k.at k.room)

pub take_back_law : TakeBackLaw
take_back_law setup s t r id other k =
    let so : Core → Core → Type 0 = λ c next. next ≡ c in
    from setup s t record { words = s.words; homes = s.homes; views = set (set s.views id (Main (one_back k.main_view k.pass_view))) other Spent } r so k.after
    (subst
    (λ (d : MainView). get_elem? s.views id ≡ some (Main d) → GoesOver setup s record { words = s.words; homes = s.homes; views = set (set s.views id (Main (one_back d k.pass_view))) other Spent } r so)
    (the_main_view setup s r id k.main_view k.at)
    (λ me. over setup s record { words = s.words; homes = s.homes; views = set (set s.views id (Main (one_back r.main_view k.pass_view))) other Spent } r so r.journal (taken_back setup s r id other k.pass_view me k.theirs k.empty) refl) k.at)

-- ---- a commit

set_twice : {A : Type 0} (xs : List A) (i : ℕ) (a b : A) → set (set xs i a) i b ≡ set xs i b
set_twice [] i a b = refl
set_twice (x ∷ xs) zero a b = refl
set_twice (x ∷ xs) (suc i) a b = ap (λ ys. x ∷ ys) (set_twice xs i a b)

abbrev Legally : Result (Unit {0}) Illegal → Result (Unit {0}) Illegal → Type 0
Legally a b = a ≡ b

-- a worker makes legal flips on places that it owns, one after another
module _ (setup : Setup) (words : List ℕ) (journal : List JournalEntry) (worker : ℕ) (is : IsWorker (core_of setup words journal) worker) where
  abbrev start : Core
  start = core_of setup words journal

  -- the core in which these flips are pending
  abbrev pub drafted : List Flip → Core
  drafted done = with_pending start worker done

  pub at_work : (done : List Flip) → IsWorker (drafted done) worker
  at_work done = record { low = is.low; high = omega (arith, is.high, length-set {A = List Flip} (replicate setup.workers []) (worker - 1) done) }

  pub pending_is : (done : List Flip) → pending_of (drafted done) worker ≡ done
  pending_is done = get_or-set_same {A = List Flip} (replicate setup.workers []) (worker - 1) done [] (omega (arith, is.low, is.high))

  none_drafted : set {A = List Flip} (replicate setup.workers []) (worker - 1) [] ≡ replicate setup.workers []
  none_drafted = ap (set {A = List Flip} (replicate setup.workers []) (worker - 1)) (sym (nothing_pending setup.workers (worker - 1))) ∙ set-get_or {A = List Flip} (replicate setup.workers []) (worker - 1) []

  pub no_draft : drafted [] ≡ start
  no_draft = ap (λ (p : List (List Flip)). record start { pending = p }) none_drafted

  -- the draft is dropped
  pub dropped : (done : List Flip) → set (drafted done).pending (worker - 1) [] ≡ replicate setup.workers []
  dropped done = set_twice (replicate setup.workers []) (worker - 1) done [] ∙ none_drafted

  pub makes : (done fs : List Flip) (k m : ComplexView) → replay (complex_of start) done ≡ Some k → replay k fs ≡ Some m → ((p : ℕ) → flips_touch p fs ≡ true → (p ≤ places_of start) × (owner_of start p ≡ worker)) → FlipsMade worker fs (drafted done) (drafted (done ++ fs))
  makes done [] k m e h mine = ap drafted (append-nil done)
  makes done (f ∷ fs) k m e h mine =
      let t = first_flip k m f fs h in
      let seen : seen_by (drafted done) worker ≡ k = ap (after (complex_of start)) (pending_is done) ∙ after_is (complex_of start) k done e in
      let ok : broken_rule (seen_by (drafted done) worker) f.a f.b ≡ Ok tt = ap (λ (l : ComplexView). broken_rule l f.a f.b) seen ∙ t.0 in
      let own : (p : ℕ) → flip_touches p f ≡ true → (p ≤ places_of start) × (owner_of start p ≡ worker) = λ p y. mine p (or_left (flip_touches p f) (flips_touch p fs) y) in
      let held : FlipHeld (drafted done) worker f = record {
        fits = record { places = λ p y. is_le p (places_of start) (own p y).0; shape = λ z. clash (sym ok ∙ z) };
        owned = λ p y. eq-eqb (owner_of start p) worker (own p y).1;
      } in
      let next : drafted (done ++ f ∷ []) ≡ with_pending (drafted done) worker (pending_of (drafted done) worker ++ f ∷ []) =
      ap (λ (p : List (List Flip)). record start { pending = p }) (sym (ap (λ (l : List Flip). set (set (replicate setup.workers []) (worker - 1) done) (worker - 1) (l ++ f ∷ [])) (pending_is done) ∙ set_twice (replicate setup.workers []) (worker - 1) done (done ++ f ∷ []))) in (
        drafted (done ++ f ∷ []),
        (at_work done, (held, ok, next)),
        subst (λ (l : List Flip). FlipsMade worker fs (drafted (done ++ f ∷ [])) (drafted l)) (append_assoc done (f ∷ []) fs)
            (makes (done ++ f ∷ []) fs (flipped k f.a f.b) m (replay_then (complex_of start) k done f e t.0) t.1 (λ p y. mine p (or_right (flip_touches p f) (flips_touch p fs) y))),
      )
    where
      is_le : (n m : ℕ) → n ≤ m → nat_le n m ≡ true
      is_le n m h = grind (arith, nat_tests)

      clash : Legally (Ok tt) (Err Shape) → ⊥
      clash e = cc

module _ (setup : Setup) (s t : Board) (r : Ruled setup s) (id : ℕ) (e : JournalEntry) (wide : length s.homes ≡ setup.places + 1) (k : Writes setup s t id e) where
  worker : IsWorker (core_at setup s r) id
  worker = is_worker setup s r id k.pass_view k.at

  abbrev made : Core
  made = drafted setup s.words r.journal id worker e.flips

  done : k.pass_view.mine ≡ mine r.journal setup.round id
  done = (r.past id k.pass_view k.at).entries

  by : e.worker ≡ id
  by = is_id setup s r.journal r.now r.main_view (firm_of setup s r) id k.pass_view k.book e wide k.at k.held k.written k.short k.may done

  entry : next_entry made setup.round id ≡ e
  entry = let seq = number setup s r.journal r.now r.main_view (firm_of setup s r) id k.pass_view k.book e wide k.at k.held k.written k.short k.may done ∙ ap (λ (w : ℕ). length (of_worker r.journal w)) by in
      λ i. record { round = (sym k.may.round_is) i; worker = (sym by) i; seq = (sym seq) i; flips = pending_is setup s.words r.journal id worker e.flips i }

  flips : FlipsMade id e.flips (core_at setup s r) made
  flips = subst (λ (c : Core). FlipsMade id e.flips c made) (no_draft setup s.words r.journal id worker)
      (makes setup s.words r.journal id worker [] e.flips (complex_of (core_at setup s r)) (now_after setup s r id k.pass_view k.at e) refl
      (ap (λ (l : ComplexView). replay l e.flips) (after_is setup.start.value r.now (flat r.journal) r.written.replays) ∙ legal setup s r.journal r.now r.main_view (firm_of setup s r) id k.pass_view k.book e wide k.at k.held k.written k.short k.may done)
      (λ p y. let o = on_places setup s r.journal r.now r.main_view (firm_of setup s r) id k.pass_view k.book e wide k.at k.held k.written k.short k.may done p y in (place_there setup s r p o.0, o.1)))

  is_commit : IsCommit setup.round id e (core_at setup s r) (core_of setup (set s.words 0 0) (r.journal ++ e ∷ []))
  is_commit = record {
    made = made;
    flips = flips;
    entry = entry;
    commits = record {
      worker_is = at_work setup s.words r.journal id worker e.flips;
      holds = (r.owned.owned id k.pass_view 0 k.at k.held).1;
      some = λ z. let some = k.may.some in let none-of = ap length (sym (pending_is setup s.words r.journal id worker e.flips) ∙ z) in absurd (omega arith);
      next_is = λ i. record { start = setup.start.value; owners = set s.words 0 0; pending = (sym (dropped setup s.words r.journal id worker e.flips)) i; journal = r.journal ++ (sym entry) i ∷ [] };
    };
  }

pub commit_law : CommitLaw
commit_law setup s t r id e wide k =
    from setup s t (put_home s 0 (Journal k.book) id (committed k.pass_view e k.seen)) r (IsCommit setup.round id e) k.after
    (over setup s (put_home s 0 (Journal k.book) id (committed k.pass_view e k.seen)) r (IsCommit setup.round id e) (r.journal ++ e ∷ []) (wrote setup s r id k.pass_view k.at k.book e k.seen wide k.held k.written k.short k.may) (is_commit setup s t r id e wide k))

pub closed_law : ClosedLaw
closed_law setup id c words slots back f = closes setup id (Main c) c words slots refl back f
