-- How a board begins and ends, and what an entry has to be.
use Rattle.std.specs.Prelude.{◌≡◌, ℕ, ◌+◌, ◌<◌, ◌≤◌, true, List, [], length, replicate, IsSome}
use Rattle.std.specs.List.{AllByRecursion}
use mathlib.Core.Option.{some}
use lib.ListN.{get_elem?}
use Rattle.complex_core.specs.Complexes.{ComplexView, IsComplex}
use Rattle.flip_rules.specs.Flips.{OfFaces, replay}
use Rattle.flip_rules.specs.Entries.{JournalEntry}
use Rattle.star_laws.specs.Stars.{LabelsPass}
use Rattle.stars.specs.StarViews.{UsesUpTo}
use Rattle.board_rule.specs.Books.{Book}
use Rattle.board_rule.specs.Items.{has_item}
use Rattle.board_rule.specs.Views.{home_at}
use Rattle.board_rule.specs.Rule.{Written, Past}
use Rattle.board_rule.specs.Plays.{Sees}
use Rattle.board_rule.specs.declared.setup.Setup.{Setup}
use Rattle.board_rule.specs.declared.data.Slot.{Slot}
use Rattle.board_rule.specs.declared.data.Slot.TheVariants.{Journal, Home}
use Rattle.board_rule.specs.declared.view.PassView.{PassView}
use Rattle.board_rule.specs.declared.kept.Kept.{Kept}
use Rattle.board_rule.specs.declared.view.MainView.{MainView}

-- words and slots from which a board may be opened: all places are free, the stars of the start are at home, and the journal has no entries
pub record Opens (setup : Setup) (words : List ℕ) (slots : List Slot) : Type 0 where
  pub complex : IsComplex setup.start.value
  pub within : UsesUpTo setup.start.value setup.places
  pub free : words ≡ replicate (setup.places + 1) 0
  pub room : ℕ
  pub journal : get_elem? slots 0 ≡ some (Journal record { entries = []; room = room })
  pub stars : (p : ℕ) → 0 < p → p ≤ setup.places → get_elem? slots p ≡ some (Home (home_at setup.start.value [] p))

-- the entry that a pass may commit: it is the pass's next one, it has 1 to 4 flips, each label of them is held, and they are legal in order on the stars that are known
pub record Commits (setup : Setup) (v : PassView) (e : JournalEntry) : Type 0 where
  pub sees : Sees v
  pub claiming : v.claiming ≡ true
  pub worker : e.worker ≡ v.worker
  pub round_is : e.round ≡ setup.round
  pub seq : e.seq ≡ length v.mine
  pub some : 0 < length e.flips
  pub few : length e.flips ≤ 4
  pub faces : AllByRecursion OfFaces e.flips
  pub held : LabelsPass (has_item v.items) e.flips
  pub legal : IsSome (replay v.seen e.flips)

-- every pass was taken back
abbrev pub AllBack : MainView → Type 0
AllBack c = (w : ℕ) (k : Kept) → 0 < w → get_elem? c.back w ≡ some k → k.gone ≡ true

-- what the rule says where all words are 0 and every pass was taken back, of the journal, the complex after it, and what main kept of each pass
pub record IsClosed (setup : Setup) (c : MainView) (journal : List JournalEntry) (now : ComplexView) : Type 0 where
  pub written : Written setup (replicate (setup.places + 1) 0) (length c.back) journal now
  pub past : (w : ℕ) (k : Kept) → 0 < w → get_elem? c.back w ≡ some k → Past setup journal (length c.back) [] c w k.mine k.tries

-- and where these are the slots
pub record Closes (setup : Setup) (c : MainView) (slots : List Slot) : Type 0 where
  pub book : Book
  pub now : ComplexView
  pub closed : IsClosed setup c book.entries now
  pub journal : get_elem? slots 0 ≡ some (Journal book)
  pub stars : (p : ℕ) → 0 < p → p ≤ setup.places → get_elem? slots p ≡ some (Home (home_at now book.entries p))
