-- The rule of a board: what holds between any two atomic steps of any number of threads, of the claim words, of the values at
-- home, and of what main and each pass know.
use Rattle.std.specs.Prelude.{◌≡◌, ◌≢◌, ◌⊎◌, ℕ, ◌+◌, ◌^◌, ◌<◌, ◌≤◌, true, false, List, [], ◌∷◌, ◌++◌, length, replicate, slice_index, Some}
use Rattle.std.specs.List.{AllByRecursion}
use mathlib.Core.Option.{Option, some}
use lib.ListN.{get_elem?}
use Rattle.atomic_table.specs.Table.{State}
use Rattle.complex_core.specs.Complexes.{ComplexView, IsComplex}
use Rattle.flip_rules.specs.Flips.{replay, OfFaces}
use Rattle.flip_rules.specs.Entries.{JournalEntry}
use Rattle.flip_rules.specs.Journals.{flat, mine, touches}
use Rattle.core_laws.specs.Cores.{Core}
use Rattle.core_laws.specs.Serials.{Serial}
use Rattle.star_laws.specs.Stars.{flips_touch}
use Rattle.stars.specs.StarViews.{UsesUpTo}
use Rattle.board_rule.specs.Items.{item, has_item}
use Rattle.board_rule.specs.Tries.{Try, last_with, last_note, last_won, last_count, wins, has_won}
use Rattle.board_rule.specs.Views.{home_at, keeps, living}
use Rattle.board_rule.specs.declared.setup.Setup.{Setup}
use Rattle.board_rule.specs.Homes.{VersionedStar}
use Rattle.board_rule.specs.declared.data.Slot.{Slot}
use Rattle.board_rule.specs.declared.data.Slot.TheVariants.{Journal, Home}
use Rattle.board_rule.specs.declared.view.PassView.{PassView}
use Rattle.board_rule.specs.declared.kept.Kept.{Kept}
use Rattle.board_rule.specs.declared.view.MainView.{MainView}
use Rattle.board_rule.specs.declared.view.View.{View}
use Rattle.board_rule.specs.declared.view.View.TheVariants.{Main, Pass, Spent}

-- the words, the values at home, and the view of each seat: seat 0 is main, and seat w is pass w
abbrev pub Board : Type 0
Board = State Slot View

-- the core that a board stands for: the words are the owners, and nothing is pending
abbrev pub core_of : Setup → List ℕ → List JournalEntry → Core
core_of setup words journal = record { start = setup.start.value; owners = words; pending = replicate setup.workers []; journal = journal }

-- ---- PART 1: the journal is one legal history, and the core is serial

-- an entry of the board's round and of a pass that was handed out, with 1 to 4 flips, all labels of which are places; there is a seat for main and for each of these passes
pub record IsEntry (round places seats : ℕ) (e : JournalEntry) : Type 0 where
  pub round_is : e.round ≡ round
  pub low : 0 < e.worker
  pub high : e.worker < seats
  pub some : 0 < length e.flips
  pub few : length e.flips ≤ 4
  pub labels : (p : ℕ) → flips_touch p e.flips ≡ true → p ≤ places
  pub faces : AllByRecursion OfFaces e.flips

pub record Written (setup : Setup) (words : List ℕ) (seats : ℕ) (journal : List JournalEntry) (now : ComplexView) : Type 0 where
  pub serial : Serial (core_of setup words journal)
  pub replays : replay setup.start.value (flat journal) ≡ Some now
  pub complex : IsComplex now
  pub within : UsesUpTo now setup.places
  pub entries : AllByRecursion (IsEntry setup.round setup.places seats) journal
  pub short : length journal < 2 ^ 64

-- ---- PART 2: each number from 1 to the handed-out one belongs to exactly one pass, and word p is w, not 0, exactly where the living pass w has place p

pub record Owned (workers places : ℕ) (words : List ℕ) (views : List View) (c : MainView) : Type 0 where
  pub long : length words ≡ places + 1
  pub few : length views ≤ workers + 1
  pub main : get_elem? views 0 ≡ some (Main c)
  pub only : (i : ℕ) (d : MainView) → get_elem? views i ≡ some (Main d) → i ≡ 0
  pub back : length c.back ≡ length views
  pub numbers : (w : ℕ) (v : PassView) → get_elem? views w ≡ some (Pass v) → (v.worker ≡ w) × (0 < w)
  pub lives : (w : ℕ) (v : PassView) → get_elem? views w ≡ some (Pass v) → get_elem? c.back w ≡ some living
  pub gone : (w : ℕ) (k : Kept) → get_elem? c.back w ≡ some k → k.gone ≡ true → get_elem? views w ≡ some Spent
  pub spent : (w : ℕ) → get_elem? views w ≡ some Spent → (k : Kept) × (get_elem? c.back w ≡ some k) × (k.gone ≡ true)
  pub owners : (p w : ℕ) → slice_index words p ≡ w → 0 < w → (v : PassView) × (get_elem? views w ≡ some (Pass v)) × (keeps v p ≡ true)
  pub owned : (w : ℕ) (v : PassView) (p : ℕ) → get_elem? views w ≡ some (Pass v) → keeps v p ≡ true → (p ≤ places) × (slice_index words p ≡ w)

-- ---- PART 3: at a place that is free lies its star in the complex now, with the number of entries that touch it, and at place 0 the journal

pub record Housed (places : ℕ) (words : List ℕ) (homes : List (Option Slot)) (journal : List JournalEntry) (now : ComplexView) : Type 0 where
  pub stars : (p : ℕ) → 0 < p → p ≤ places → slice_index words p ≡ 0 → get_elem? homes p ≡ some (some (Home (home_at now journal p)))
  pub book : slice_index words 0 ≡ 0 → (room : ℕ) × (get_elem? homes 0 ≡ some (some (Journal record { entries = journal; room = room })))

-- ---- PART 4: what a living pass knows of its places is what is so now, also of the journal where it holds place 0

pub record Knows (setup : Setup) (journal : List JournalEntry) (now : ComplexView) (v : PassView) : Type 0 where
  pub start : v.start ≡ setup.start.value
  pub places : v.places ≡ setup.places
  pub items : (p : ℕ) (x : VersionedStar) → item v.items p ≡ some x → (0 < p) × (x ≡ home_at now journal p)
  pub taken : v.has_journal ≡ true → v.journal ≡ journal

-- ---- PART 5: what a pass committed are its entries in the journal

abbrev pub IsMine : Setup → List JournalEntry → ℕ → List JournalEntry → Type 0
IsMine setup journal w done = done ≡ mine journal setup.round w

-- ---- PART 6: the version of a won mark isn't above the place's, and an owner that a mark names is another pass that was handed out

abbrev pub IsOther : ℕ → ℕ → ℕ → Type 0
IsOther seats w o = (0 < o) × (o < seats) × (o ≢ w)

pub record Names (seats w : ℕ) (journal : List JournalEntry) (t : Try) : Type 0 where
  pub version : t.won ≡ true → t.found ≤ touches journal t.place
  pub lost : t.won ≡ false → IsOther seats w t.found
  pub owner : 0 < t.owner → IsOther seats w t.owner

-- ---- PART 7: the note of a won mark tells the stars and versions after some beginning of the journal

-- after this beginning each noted place has the noted star and version, and the pass has as many entries in it as the note says
pub record FitsAt (setup : Setup) (before : List JournalEntry) (w : ℕ) (t : Try) : Type 0 where
  pub there : ComplexView
  pub replays : replay setup.start.value (flat before) ≡ Some there
  pub items : (p : ℕ) (x : VersionedStar) → item t.note p ≡ some x → x ≡ home_at there before p
  pub count : length (mine before setup.round w) ≡ t.count

-- some beginning of the journal fits
pub record Fits (setup : Setup) (journal : List JournalEntry) (w : ℕ) (t : Try) : Type 0 where
  pub before : List JournalEntry
  pub after : List JournalEntry
  pub whole : journal ≡ before ++ after
  pub fits : FitsAt setup before w t

pub record Noted (setup : Setup) (journal : List JournalEntry) (w : ℕ) (tries : List Try) : Type 0 where
  pub fits : AllByRecursion (λ t. t.won ≡ true → Fits setup journal w t) tries
  -- the journal before an entry of the pass fits the last note that says its number
  pub last : (before after : List JournalEntry) (e : JournalEntry) (t : Try) → journal ≡ before ++ e ∷ after → e.worker ≡ w → last_with e.seq tries ≡ some t → FitsAt setup before w t

-- ---- PART 8: notes and marks

-- the note of a won mark has an item of its place and version, and that of a lost one has none
pub record Marked (t : Try) : Type 0 where
  pub won : t.won ≡ true → (x : VersionedStar) × (item t.note t.place ≡ some x) × (x.version ≡ t.found)
  pub lost : t.won ≡ false → t.note ≡ []

-- what a claiming pass holds is what its last note, of a won mark, says
pub record Claims (v : PassView) : Type 0 where
  pub won : last_won v.tries ≡ true
  pub items : (p : ℕ) → item v.items p ≡ item (last_note v.tries) p
  pub count : length v.mine ≡ last_count v.tries
  pub fewer : length v.mine < wins v.tries

-- the places from 1 of a living pass are among those of its last note
pub record Holds (v : PassView) : Type 0 where
  pub among : (p : ℕ) → has_item v.items p ≡ true → has_item (last_note v.tries) p ≡ true
  pub claims : v.claiming ≡ true → Claims v

-- ---- PART 9: a refused claim of a place from 1 names a pass that has a won mark whose note has the place

-- the pass o, living or taken back, has such a mark
abbrev pub HasWon : List View → MainView → ℕ → ℕ → Type 0
HasWon views c o p = ((v : PassView) × (get_elem? views o ≡ some (Pass v)) × (has_won v.tries p ≡ true)) ⊎ ((k : Kept) × (get_elem? c.back o ≡ some k) × (has_won k.tries p ≡ true))

pub record Blames (views : List View) (c : MainView) (t : Try) : Type 0 where
  pub lost : t.won ≡ false → HasWon views c t.found t.place
  pub last : 0 < t.last → HasWon views c t.owner t.last

-- ---- the rule

-- parts 5 to 9 of a pass, living or taken back, with its number, its entries and its tries
pub record Past (setup : Setup) (journal : List JournalEntry) (seats : ℕ) (views : List View) (c : MainView) (w : ℕ) (done : List JournalEntry) (tries : List Try) : Type 0 where
  pub entries : IsMine setup journal w done
  pub names : AllByRecursion (Names seats w journal) tries
  pub notes : Noted setup journal w tries
  pub marks : AllByRecursion Marked tries
  pub few : length done ≤ wins tries
  pub blames : AllByRecursion (Blames views c) tries

-- a living pass
pub record Living (setup : Setup) (journal : List JournalEntry) (now : ComplexView) (v : PassView) : Type 0 where
  pub knows : Knows setup journal now v
  pub holds : Holds v

pub record Ruled (setup : Setup) (s : Board) : Type 0 where
  -- the journal at home, or as the pass that has it took it, and the complex after it
  pub journal : List JournalEntry
  pub now : ComplexView
  pub main_view : MainView
  pub frame : (main_view.start ≡ setup.start.value) × (main_view.places ≡ setup.places)
  pub written : Written setup s.words (length s.views) journal now
  pub owned : Owned setup.workers setup.places s.words s.views main_view
  pub housed : Housed setup.places s.words s.homes journal now
  pub living : (w : ℕ) (v : PassView) → get_elem? s.views w ≡ some (Pass v) → Living setup journal now v
  pub past : (w : ℕ) (v : PassView) → get_elem? s.views w ≡ some (Pass v) → Past setup journal (length s.views) s.views main_view w v.mine v.tries
  pub past_gone : (w : ℕ) (k : Kept) → get_elem? main_view.back w ≡ some k → k.gone ≡ true → Past setup journal (length s.views) s.views main_view w k.mine k.tries

-- main before any pass was handed out
abbrev pub first_main_view : Setup → MainView
first_main_view setup = record { start = setup.start.value; places = setup.places; back = living ∷ [] }

abbrev pub opener : Setup → View
opener setup = Main (first_main_view setup)
