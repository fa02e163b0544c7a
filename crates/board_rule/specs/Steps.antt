-- What each kind of step does to a board, and what it is to the core: a state that meets the rule goes over to one that meets it, and
-- the step on the words is an event of the core.
use Rattle.std.specs.Prelude.{◌≡◌, ◌≢◌, ℕ, ◌+◌, ◌<◌, ◌≤◌, ◌^◌, true, false, List, [], ◌∷◌, ◌++◌, length, slice_index, slice_set, Ok, Err}
use Rattle.std.specs.List.{AllByRecursion}
use mathlib.Core.Option.{none, some}
use lib.ListN.{get_elem?}
use Rattle.atomic_table.specs.Table.{opening, Final, Seen}
use Rattle.complex_core.specs.Complexes.{ComplexView}
use Rattle.flip_rules.specs.Entries.{JournalEntry}
use Rattle.flip_rules.specs.declared.flip.Flip.{Flip}
use Rattle.core_laws.specs.declared.event.Event.TheVariants as event
use Rattle.core_laws.specs.declared.event.Told.TheVariants as told
use Rattle.core_laws.specs.declared.event.Refused.TheVariants as refused
use Rattle.core_laws.specs.Cores.{Core, IsWorker, opened, owner_of, pending_of}
use Rattle.core_laws.specs.Steps.{Step, next_entry, committed as core_committed}
use Rattle.board_rule.specs.Books.{Book}
use Rattle.board_rule.specs.Items.{item}
use Rattle.board_rule.specs.Views.{keeps, Empty, opened_by, lost_by, with_item, counted, with_journal, without_item, without_journal, committed}
use Rattle.board_rule.specs.Rule.{Board, Ruled, core_of, opener}
use Rattle.board_rule.specs.Plays.{handed, given, gathered}
use Rattle.board_rule.specs.Ends.{Opens, Commits, AllBack, Closes}
use Rattle.board_rule.specs.declared.setup.Setup.{Setup}
use Rattle.board_rule.specs.Homes.{VersionedStar}
use Rattle.board_rule.specs.declared.data.Slot.{Slot}
use Rattle.board_rule.specs.declared.data.Slot.TheVariants.{Journal, Home}
use Rattle.board_rule.specs.declared.view.PassView.{PassView}
use Rattle.board_rule.specs.declared.view.MainView.{MainView}
use Rattle.board_rule.specs.declared.view.View.TheVariants.{Main, Pass, Spent}

-- ---- what a step changes

-- the pass at a seat knows other things
abbrev pub looked : Board → ℕ → PassView → Board
looked s id v = record { words = s.words; homes = s.homes; views = slice_set s.views id (Pass v) }

-- it takes a place with its slot
abbrev pub taken : Board → ℕ → ℕ → PassView → Board
taken s p id v = record { words = slice_set s.words p id; homes = slice_set s.homes p none; views = slice_set s.views id (Pass v) }

-- it gives a place back, with this in the slot
abbrev pub put_home : Board → ℕ → Slot → ℕ → PassView → Board
put_home s p x id v = record { words = slice_set s.words p 0; homes = slice_set s.homes p (some x); views = slice_set s.views id (Pass v) }

-- ---- the kinds of step of the pass at seat id, from s to t

abbrev pub IsAt : Board → ℕ → PassView → Type 0
IsAt s id v = get_elem? s.views id ≡ some (Pass v)

-- the first claim of a try is won: the pass held nothing, and takes what lies at home
pub record WinsFirst (setup : Setup) (s t : Board) (id p : ℕ) : Type 0 where
  pub pass_view : PassView
  pub at : IsAt s id pass_view
  pub low : 0 < p
  pub high : p ≤ setup.places
  pub empty : Empty pass_view
  pub free : slice_index s.words p ≡ 0
  pub home : VersionedStar
  pub lies : get_elem? s.homes p ≡ some (some (Home home))
  pub seen : ComplexView
  pub after : t ≡ taken s p id (opened_by pass_view p home seen)

-- it is refused
pub record LosesFirst (setup : Setup) (s t : Board) (id p : ℕ) : Type 0 where
  pub pass_view : PassView
  pub at : IsAt s id pass_view
  pub low : 0 < p
  pub high : p ≤ setup.places
  pub empty : Empty pass_view
  pub busy : slice_index s.words p ≢ 0
  pub after : t ≡ looked s id (lost_by pass_view p (slice_index s.words p))

-- a later claim of a place from 1 is won
pub record WinsLater (setup : Setup) (s t : Board) (id p : ℕ) : Type 0 where
  pub pass_view : PassView
  pub at : IsAt s id pass_view
  pub low : 0 < p
  pub high : p ≤ setup.places
  pub apart : keeps pass_view p ≡ false
  pub claiming : pass_view.claiming ≡ true
  pub free : slice_index s.words p ≡ 0
  pub home : VersionedStar
  pub lies : get_elem? s.homes p ≡ some (some (Home home))
  pub seen : ComplexView
  pub after : t ≡ taken s p id (with_item pass_view p home seen)

-- a claim of the journal is won
pub record WinsJournal (s t : Board) (id : ℕ) : Type 0 where
  pub pass_view : PassView
  pub at : IsAt s id pass_view
  pub free : slice_index s.words 0 ≡ 0
  pub book : Book
  pub lies : get_elem? s.homes 0 ≡ some (some (Journal book))
  pub after : t ≡ taken s 0 id (with_journal pass_view book.entries)

-- a later claim, or one of the journal, is refused
pub record LosesLater (setup : Setup) (s t : Board) (id p : ℕ) : Type 0 where
  pub pass_view : PassView
  pub at : IsAt s id pass_view
  pub high : p ≤ setup.places
  pub apart : keeps pass_view p ≡ false
  pub busy : slice_index s.words p ≢ 0
  pub after : t ≡ looked s id (counted pass_view p (slice_index s.words p))

-- a place from 1 is given back, as the pass knows it
pub record Releases (s t : Board) (id p : ℕ) : Type 0 where
  pub pass_view : PassView
  pub at : IsAt s id pass_view
  pub low : 0 < p
  pub held : keeps pass_view p ≡ true
  pub home : VersionedStar
  pub known : item pass_view.items p ≡ some home
  pub after : t ≡ put_home s p (Home home) id (without_item pass_view p)

-- the journal is given back as it was
pub record Leaves (s t : Board) (id : ℕ) : Type 0 where
  pub pass_view : PassView
  pub at : IsAt s id pass_view
  pub held : pass_view.has_journal ≡ true
  pub book : Book
  pub same : book.entries ≡ pass_view.journal
  pub after : t ≡ put_home s 0 (Journal book) id (without_journal pass_view)

-- the journal is given back with one entry more
pub record Writes (setup : Setup) (s t : Board) (id : ℕ) (e : JournalEntry) : Type 0 where
  pub pass_view : PassView
  pub at : IsAt s id pass_view
  pub held : pass_view.has_journal ≡ true
  pub may : Commits setup pass_view e
  pub book : Book
  pub written : book.entries ≡ pass_view.journal ++ e ∷ []
  pub short : length book.entries < 2 ^ 64
  pub seen : ComplexView
  pub after : t ≡ put_home s 0 (Journal book) id (committed pass_view e seen)

-- ---- the kinds of step of main at seat id

-- a pass is handed out
pub record HandsOut (setup : Setup) (s t : Board) (id : ℕ) : Type 0 where
  pub main_view : MainView
  pub at : get_elem? s.views id ≡ some (Main main_view)
  pub room : length main_view.back ≤ setup.workers
  pub after : t ≡ record { words = s.words; homes = s.homes; views = slice_set s.views id (handed (Main main_view)) ++ given (Main main_view) ∷ [] }

-- the pass at another seat, which holds no place, is taken back
pub record TakesBack (s t : Board) (id other : ℕ) : Type 0 where
  pub main_view : MainView
  pub at : get_elem? s.views id ≡ some (Main main_view)
  pub pass_view : PassView
  pub theirs : IsAt s other pass_view
  pub empty : Empty pass_view
  pub after : t ≡ record { words = s.words; homes = s.homes; views = slice_set (slice_set s.views id (gathered (Main main_view) (Pass pass_view))) other Spent }

-- ---- what they are to the core

-- the core of a state that meets the rule
abbrev pub core_at : (setup : Setup) (s : Board) → Ruled setup s → Core
core_at setup s r = core_of setup s.words r.journal

-- the state after meets the rule too, and this is so of the cores before and after
abbrev pub GoesOver : (setup : Setup) (s t : Board) → Ruled setup s → (Core → Core → Type 0) → Type 0
GoesOver setup s t r so = (next : Ruled setup t) × so (core_at setup s r) (core_at setup t next)

-- the worker's flips are made, one after another
abbrev pub FlipsMade : ℕ → List Flip → Core → Core → Type 0
FlipsMade worker [] c next = next ≡ c
FlipsMade worker (f ∷ fs) c next = (mid : Core) × Step c (event.Flip worker f) (Ok told.Flipped) mid × FlipsMade worker fs mid next

-- the pending flips are committed, as the row of this event has it, but for the round
pub record CommitsIn (round worker : ℕ) (c next : Core) : Type 0 where
  pub worker_is : IsWorker c worker
  pub holds : owner_of c 0 ≡ worker
  pub some : pending_of c worker ≢ []
  pub next_is : next ≡ core_committed c round worker

-- the flips of an entry are made, and then committed as this entry
pub record IsCommit (round worker : ℕ) (e : JournalEntry) (c next : Core) : Type 0 where
  pub made : Core
  pub flips : FlipsMade worker e.flips c made
  pub entry : next_entry made round worker ≡ e
  pub commits : CommitsIn round worker made next

-- ---- laws

-- where a board is opened the rule holds, and its core is the opened one
abbrev pub OpeningLaw : Type 0
OpeningLaw = (setup : Setup) (words : List ℕ) (slots : List Slot) → Opens setup words slots
    → (r : Ruled setup (opening words slots (opener setup))) × (core_at setup (opening words slots (opener setup)) r ≡ opened setup.start.value setup.places setup.workers)

abbrev pub FirstWonLaw : Type 0
FirstWonLaw = (setup : Setup) (s t : Board) (r : Ruled setup s) (id p : ℕ) → WinsFirst setup s t id p → GoesOver setup s t r (λ c next. Step c (event.Claim id p) (Ok told.Claimed) next)

abbrev pub FirstRefusedLaw : Type 0
FirstRefusedLaw = (setup : Setup) (s t : Board) (r : Ruled setup s) (id p : ℕ) → LosesFirst setup s t id p → GoesOver setup s t r (λ c next. Step c (event.Claim id p) (Err (refused.Busy p (slice_index s.words p))) next)

abbrev pub LaterWonLaw : Type 0
LaterWonLaw = (setup : Setup) (s t : Board) (r : Ruled setup s) (id p : ℕ) → WinsLater setup s t id p → GoesOver setup s t r (λ c next. Step c (event.Claim id p) (Ok told.Claimed) next)

abbrev pub JournalWonLaw : Type 0
JournalWonLaw = (setup : Setup) (s t : Board) (r : Ruled setup s) (id : ℕ) → WinsJournal s t id → GoesOver setup s t r (λ c next. Step c (event.Claim id 0) (Ok told.Claimed) next)

abbrev pub LaterRefusedLaw : Type 0
LaterRefusedLaw = (setup : Setup) (s t : Board) (r : Ruled setup s) (id p : ℕ) → LosesLater setup s t id p → GoesOver setup s t r (λ c next. Step c (event.Claim id p) (Err (refused.Busy p (slice_index s.words p))) next)

abbrev pub ReleaseLaw : Type 0
ReleaseLaw = (setup : Setup) (s t : Board) (r : Ruled setup s) (id p : ℕ) → length s.homes ≡ setup.places + 1 → Releases s t id p → GoesOver setup s t r (λ c next. Step c (event.Release id p) (Ok told.Released) next)

abbrev pub LeaveLaw : Type 0
LeaveLaw = (setup : Setup) (s t : Board) (r : Ruled setup s) (id : ℕ) → length s.homes ≡ setup.places + 1 → Leaves s t id → GoesOver setup s t r (λ c next. Step c (event.Release id 0) (Ok told.Released) next)

abbrev pub CommitLaw : Type 0
CommitLaw = (setup : Setup) (s t : Board) (r : Ruled setup s) (id : ℕ) (e : JournalEntry) → length s.homes ≡ setup.places + 1 → Writes setup s t id e → GoesOver setup s t r (IsCommit setup.round id e)

-- main's steps are no event of the core
abbrev pub HandOutLaw : Type 0
HandOutLaw = (setup : Setup) (s t : Board) (r : Ruled setup s) (id : ℕ) → HandsOut setup s t id → GoesOver setup s t r (λ c next. next ≡ c)

abbrev pub TakeBackLaw : Type 0
TakeBackLaw = (setup : Setup) (s t : Board) (r : Ruled setup s) (id other : ℕ) → TakesBack s t id other → GoesOver setup s t r (λ c next. next ≡ c)

-- a step of any kind
pub data Moves (setup : Setup) (s t : Board) : Type 0 where
  wins_first : (id p : ℕ) → WinsFirst setup s t id p → Moves setup s t
  loses_first : (id p : ℕ) → LosesFirst setup s t id p → Moves setup s t
  wins_later : (id p : ℕ) → WinsLater setup s t id p → Moves setup s t
  wins_journal : (id : ℕ) → WinsJournal s t id → Moves setup s t
  loses_later : (id p : ℕ) → LosesLater setup s t id p → Moves setup s t
  releases : (id p : ℕ) → Releases s t id p → Moves setup s t
  leaves : (id : ℕ) → Leaves s t id → Moves setup s t
  writes : (id : ℕ) (e : JournalEntry) → Writes setup s t id e → Moves setup s t
  hands_out : (id : ℕ) → HandsOut setup s t id → Moves setup s t
  takes_back : (id other : ℕ) → TakesBack s t id other → Moves setup s t

-- one step after another, of any passes in any order
abbrev pub IsRun : Setup → Board → List Board → Type 0
IsRun setup s [] = Unit {0}
IsRun setup s (t ∷ ts) = Moves setup s t × IsRun setup t ts

-- from an opened board on, the rule holds after each step
abbrev pub RunningLaw : Type 0
RunningLaw = (setup : Setup) (words : List ℕ) (slots : List Slot) (states : List Board) → Opens setup words slots → length slots ≡ setup.places + 1 → IsRun setup (opening words slots (opener setup)) states → AllByRecursion (Ruled setup) states

-- once every pass was taken back, the words and slots that are left are those of a closed board
abbrev pub ClosedLaw : Type 0
ClosedLaw = (setup : Setup) (id : ℕ) (c : MainView) (words : List ℕ) (slots : List Slot) → AllBack c → Final (Seen (Ruled setup) id (Main c)) words slots → Closes setup c slots
