-- What clauses see of a worker.
use Rattle.std.specs.Prelude.{◌≡◌, ℕ, ◌<◌, ◌≤◌, List}
use Rattle.std.specs.List.{AllByRecursion}
use Rattle.flip_rules.specs.Entries.{JournalEntry}
use Rattle.board_rule.specs.Tries.{Try}
use Rattle.anneal_plan.specs.Limits.{phase_at}
use Rattle.anneal_plan.specs.Numbers.{Numbers}
use Rattle.anneal_plan.specs.Words.{draw_at, stream_of, stream_number}
use Rattle.anneal_plan.specs.declared.plan.Phase.{Phase}
use Rattle.vertex_claims.specs.Passes.{IsOf, IsSame, know, places_on, start_of}
use Rattle.vertex_claims.specs.declared.board.Board.{Board}
use Rattle.vertex_claims.specs.declared.pass.Pass.{Pass}
use Rattle.round_rules.specs.Tasks.{Task}
use Rattle.round_rules.specs.declared.tried.Tried.{Tried}
use Rattle.spec_worker.specs.declared.worker.Worker.{Worker}

-- its pass, its number, and the tries and entries that the pass knows
abbrev pub pass_of : Worker → Pass
pass_of w = w.pass

abbrev pub number_of : Worker → ℕ
number_of w = (know (pass_of w)).worker

abbrev pub tries_of : Worker → List Try
tries_of w = (know (pass_of w)).tries

abbrev pub mine_of : Worker → List JournalEntry
mine_of w = (know (pass_of w)).mine

-- the answers of its tries, in order
abbrev pub answers_of : Worker → List Tried
answers_of w = w.answers.items

-- its plan, its round, and the places that were used and that were free when the round started
abbrev pub plan_of : Worker → Numbers
plan_of w = w.plan

abbrev pub round_in : Worker → ℕ
round_in w = w.round

abbrev pub live_of : Worker → List ℕ
live_of w = w.live.items

abbrev pub free_of : Worker → List ℕ
free_of w = w.free.items

-- what a try of it is told on a board
abbrev pub task_of : Worker → Board → List ℕ → Phase → Task
task_of w board words phase = record { dim = (start_of board).dim; phase = phase; words = words; live = live_of w; free = free_of w; depth = (plan_of w).depth }

-- and what try t of its run is told: draw t of its stream
abbrev pub task_in : Worker → Board → ℕ → Task
task_in w board t = task_of w board (draw_at (stream_of (plan_of w).seed (stream_number (round_in w) (number_of w))) t) (phase_at (plan_of w) t)

-- the numbers are places of the board
abbrev pub ArePlaces : List ℕ → ℕ → Type 0
ArePlaces xs places = AllByRecursion (λ x. (0 < x) × (x ≤ places)) xs

-- it works on this board: its pass is of the board, and its places are places of it
pub record Works (w : Worker) (board : Board) : Type 0 where
  pub of_board : IsOf (pass_of w) board
  pub start : (know (pass_of w)).start ≡ start_of board
  pub places : (know (pass_of w)).places ≡ places_on board
  pub live : ArePlaces (live_of w) (places_on board)
  pub free : ArePlaces (free_of w) (places_on board)
  pub dim : 1 ≤ (start_of board).dim

-- the same worker after some tries
pub record IsSameWorker (a b : Worker) : Type 0 where
  pub pass : IsSame (pass_of a) (pass_of b)
  pub number : number_of b ≡ number_of a
  pub plan : plan_of b ≡ plan_of a
  pub round_is : round_in b ≡ round_in a
  pub live : live_of b ≡ live_of a
  pub free : free_of b ≡ free_of a
