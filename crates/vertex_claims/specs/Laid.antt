-- The slots of a board on which nothing is held.
use Rattle.std.specs.Prelude.{◌≡◌, ℕ, ◌<◌, ◌≤◌, List}
use mathlib.Core.Option.{some}
use lib.ListN.{get_elem?}
use Rattle.complex_core.specs.Complexes.{ComplexView}
use Rattle.flip_rules.specs.Entries.{JournalEntry}
use Rattle.board_rule.specs.Views.{home_at}
use Rattle.board_rule.specs.declared.data.Slot.{Slot}
use Rattle.board_rule.specs.declared.data.Slot.TheVariants.{Home}

-- the slot of each place from 1 has its star in this complex, and how many of these entries touch the place
abbrev pub HomesOf : List Slot → ℕ → ComplexView → List JournalEntry → Type 0
HomesOf slots places k entries = (p : ℕ) → 0 < p → p ≤ places → get_elem? slots p ≡ some (Home (home_at k entries p))
