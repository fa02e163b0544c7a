-- What ties the seat of a pass to what the pass keeps beside it.
use Rattle.std.specs.Prelude.{◌≡◌, ℕ, suc, ◌+◌, ◌<◌, ◌≤◌, Bool, true, false, cond, ◌==◌, List, [], ◌∷◌, length, slice_index_or}
use mathlib.Core.Option.{Option, some, none}
use Rattle.atomic_table.specs.Table.{rest}
use Rattle.flip_rules.specs.Entries.{JournalEntry}
use Rattle.board_rule.specs.Items.{item, has_item, single, places_of}
use Rattle.board_rule.specs.Views.{keeps, pass_view_of, is_pass}
use Rattle.board_rule.specs.Plays.{Seated}
use Rattle.board_rule.specs.declared.data.Slot.{Slot}
use Rattle.board_rule.specs.declared.data.Slot.TheVariants.{Journal, Home, Out}
use Rattle.board_rule.specs.declared.view.PassView.{PassView}

-- what the seat knows
abbrev pub knows : Seated → PassView
knows m = pass_view_of m.0

-- what the slot of a place holds, where the seat has it
abbrev pub slot_at : Seated → ℕ → Option Slot
slot_at m p = item m.1 p

-- the seat is a pass's; the list of places is in the order of its slots, which are those of the places that it holds, each once and below the room
pub record Ready (m : Seated) (order : List ℕ) (room worker : ℕ) : Type 0 where
  pub passes : is_pass m.0 ≡ true
  pub number : (knows m).worker ≡ worker
  pub ordered : order ≡ places_of m.1
  pub once : single m.1 ≡ true
  pub agrees : (p : ℕ) → has_item m.1 p ≡ keeps (knows m) p
  pub below : (p : ℕ) → has_item m.1 p ≡ true → p < room

-- there is a flag for each place, which says whether it is held
pub record Flagged (m : Seated) (flags : List Bool) (places : ℕ) : Type 0 where
  pub long : length flags ≡ places + 1
  pub each : (p : ℕ) → p ≤ places → slice_index_or flags p false ≡ keeps (knows m) p

-- the same slots in another order
pub record Shuffled (m n : Seated) : Type 0 where
  pub view : n.0 ≡ m.0
  pub slots : (p : ℕ) → slot_at n p ≡ slot_at m p
  pub has : (p : ℕ) → has_item n.1 p ≡ has_item m.1 p
  pub once : single n.1 ≡ single m.1

-- the slot of the place is in front
abbrev pub OnTop : Seated → ℕ → Type 0
OnTop m p = (x : Slot) × (m.1 ≡ (p, x) ∷ rest m.1) × (slot_at m p ≡ some x)

-- how many stand before a place
abbrev pub index_of : ℕ → List ℕ → ℕ
index_of p [] = 0
index_of p (x ∷ xs) = cond (x == p) 0 (suc (index_of p xs))

abbrev pub is_journal : Option Slot → Bool
is_journal none = false
is_journal (some (Journal b)) = true
is_journal (some (Home x)) = false
is_journal (some Out) = false

abbrev pub entries_in : Option Slot → List JournalEntry
entries_in none = []
entries_in (some (Journal b)) = b.entries
entries_in (some (Home x)) = []
entries_in (some Out) = []

abbrev pub room_in : Option Slot → ℕ
room_in none = 0
room_in (some (Journal b)) = b.room
room_in (some (Home x)) = 0
room_in (some Out) = 0

-- where the pass holds place 0, its slot has the journal as it was taken
abbrev pub HasBook : Seated → Type 0
HasBook m = (knows m).has_journal ≡ true → (is_journal (slot_at m 0) ≡ true) × (entries_in (slot_at m 0) ≡ (knows m).journal)

-- and the journal has room for so many entries
abbrev pub HasRoom : Seated → ℕ → Type 0
HasRoom m spare = spare ≤ room_in (slot_at m 0)
