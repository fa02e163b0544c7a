-- What clauses say of a board, of main and of a pass.
use Rattle.std.specs.Prelude.{◌≡◌, ℕ, ◌-◌, cond, ◌==◌, List, length}
use mathlib.Core.Option.{Option}
use Rattle.atomic_table.specs.Seated.{TableId}
use Rattle.complex_core.specs.Complexes.{ComplexView}
use Rattle.flip_rules.specs.Entries.{JournalEntry}
use Rattle.flip_rules.specs.declared.flip.Flip.{Flip}
use Rattle.board_rule.specs.Views.{pass_view_of, main_view_of}
use Rattle.board_rule.specs.declared.setup.Setup.{Setup}
use Rattle.board_rule.specs.declared.data.Slot.{Slot}
use Rattle.board_rule.specs.declared.view.PassView.{PassView}
use Rattle.board_rule.specs.declared.view.MainView.{MainView}
use Rattle.vertex_claims.specs.Held.{slot_at}
use Rattle.vertex_claims.specs.declared.board.Board.{Board}
use Rattle.vertex_claims.specs.declared.pass.Pass.{Pass}
use Rattle.vertex_claims.specs.declared.main_seat.Main.{Main}

-- ---- boards

abbrev pub board_id : Board → TableId
board_id board = board.table.shared.table_id

-- what it was told when it was opened: the complex that it begins with, its greatest place, how many passes it may have, and its round
abbrev pub setup_of : Board → Setup
setup_of board = board.table.shared.key

abbrev pub start_of : Board → ComplexView
start_of board = (setup_of board).start.value

abbrev pub places_on : Board → ℕ
places_on board = (setup_of board).places

abbrev pub workers_on : Board → ℕ
workers_on board = (setup_of board).workers

abbrev pub round_of : Board → ℕ
round_of board = (setup_of board).round

-- it was told this
pub record IsTold (board : Board) (start : ComplexView) (places workers round : ℕ) : Type 0 where
  pub start_is : start_of board ≡ start
  pub places_are : places_on board ≡ places
  pub workers_are : workers_on board ≡ workers
  pub round_is : round_of board ≡ round

-- ---- main

-- what main keeps
abbrev pub main_knows : Main → MainView
main_knows main = main_view_of main.seat.me.0

-- how many passes were handed out
abbrev pub handed : Main → ℕ
handed main = main.handed

-- main is of this board
pub record IsMainOf (main : Main) (board : Board) : Type 0 where
  pub table : main.seat.table_id ≡ board_id board
  pub start : (main_knows main).start ≡ start_of board
  pub places : (main_knows main).places ≡ places_on board

-- ---- passes

-- the pass is of this board
pub record IsOf (pass : Pass) (board : Board) : Type 0 where
  pub table : pass.seat.table_id ≡ board_id board
  pub places : pass.places ≡ places_on board

-- what the pass knows
abbrev pub know : Pass → PassView
know pass = pass_view_of pass.seat.me.0

-- what its slot of a place holds: none where it doesn't hold the place, and Out where a star was taken out
abbrev pub slot : Pass → ℕ → Option Slot
slot pass p = slot_at pass.seat.me p

-- for how many entries it knows its journal to have room
abbrev pub spare : Pass → ℕ
spare pass = pass.spare

-- how many tries it may make, and for how many marks it has room left
abbrev pub limit : Pass → ℕ
limit pass = pass.limit

abbrev pub marks_left : Pass → ℕ
marks_left pass = limit pass - length (know pass).tries

-- it is the same pass, of the same board
pub record IsSame (a b : Pass) : Type 0 where
  pub table : b.seat.table_id ≡ a.seat.table_id
  pub worker : b.worker ≡ a.worker
  pub places : b.places ≡ a.places
  pub limit : b.limit ≡ a.limit

-- the slot of one place is x afterwards, and the others are as before
abbrev pub Puts : Pass → Pass → ℕ → Option Slot → Type 0
Puts a b p x = (q : ℕ) → slot b q ≡ cond (p == q) x (slot a q)

abbrev pub SameSlots : Pass → Pass → Type 0
SameSlots a b = (q : ℕ) → slot b q ≡ slot a q

-- the entry that a pass writes
abbrev pub entry_of : Pass → Board → List Flip → JournalEntry
entry_of pass board flips = record { round = round_of board; worker = (know pass).worker; seq = length (know pass).mine; flips = flips }
