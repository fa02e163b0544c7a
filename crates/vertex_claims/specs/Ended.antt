-- What a closed board tells.
use Rattle.std.specs.Prelude.{◌≡◌, ℕ, ◌+◌, ◌<◌, ◌≤◌, List, [], length, replicate, Some}
use Rattle.std.specs.List.{AllByRecursion}
use mathlib.Core.Option.{some}
use lib.ListN.{get_elem?}
use Rattle.complex_core.specs.Complexes.{ComplexView}
use Rattle.flip_rules.specs.Flips.{replay}
use Rattle.flip_rules.specs.Entries.{JournalEntry}
use Rattle.flip_rules.specs.Journals.{flat, mine}
use Rattle.core_laws.specs.Serials.{Serial}
use Rattle.stars.specs.StarViews.{StarList, places_in, IsStarListOf}
use Rattle.board_rule.specs.Tries.{wins}
use Rattle.board_rule.specs.Rule.{core_of, IsEntry, Names, Noted, Marked, Blames}
use Rattle.board_rule.specs.declared.setup.Setup.{Setup}
use Rattle.board_rule.specs.declared.kept.Kept.{Kept}
use Rattle.board_rule.specs.declared.view.MainView.{MainView}

-- what the journal says of a pass that was taken back, by what main kept of it
pub record IsPast (setup : Setup) (c : MainView) (journal : List JournalEntry) (w : ℕ) (k : Kept) : Type 0 where
  -- its entries are those that it committed, in its order
  pub entries : k.mine ≡ mine journal setup.round w
  -- its marks name versions up to the last ones, and other passes that were handed out
  pub names : AllByRecursion (Names (length c.back) w journal) k.tries
  -- the note of each won mark fits a beginning of the journal: that before the entry with the note's number, where there is one
  pub notes : Noted setup journal w k.tries
  -- the note of a won mark has the mark's place and version, and that of a lost one is empty
  pub marks : AllByRecursion Marked k.tries
  -- it has no more entries than won marks
  pub few : length k.mine ≤ wins k.tries
  -- a refused claim names a pass that won the place in some try
  pub blames : AllByRecursion (Blames [] c) k.tries

-- the journal and the stars of a board when every pass was taken back
pub record IsEnd (setup : Setup) (c : MainView) (journal : List JournalEntry) (stars : StarList) : Type 0 where
  -- the flips of the journal are legal in order on the start, and these are the stars after them
  pub now : ComplexView
  pub replays : replay setup.start.value (flat journal) ≡ Some now
  pub stars_are : IsStarListOf now stars
  pub places_are : places_in stars ≡ setup.places
  -- the journal is that of a serial core, in which no place is held
  pub serial : Serial (core_of setup (replicate (setup.places + 1) 0) journal)
  -- each entry has the round, a worker who was handed out, and 1 to 4 flips, all labels of which are places
  pub written : AllByRecursion (IsEntry setup.round setup.places (length c.back)) journal
  pub past : (w : ℕ) (k : Kept) → 0 < w → get_elem? c.back w ≡ some k → IsPast setup c journal w k
