-- The workers of a round: before they run, and after.
use Rattle.std.specs.Prelude.{◌≡◌, ◌≢◌, ℕ, ◌+◌, ◌≤◌, true, List, [], ◌∷◌, ⊤}
use Rattle.std.specs.List.{AllByRecursion}
use mathlib.Core.Option.{some}
use lib.ListN.{get_elem?}
use Rattle.complex_core.specs.Complexes.{ComplexView}
use Rattle.complex_core.specs.Maps.{used}
use Rattle.flip_rules.specs.Entries.{JournalEntry}
use Rattle.stars.specs.StarViews.{StarList, IsStarListOf}
use Rattle.anneal_plan.specs.Places.{free_of}
use Rattle.board_rule.specs.Views.{kept}
use Rattle.board_rule.specs.declared.setup.Setup.{Setup}
use Rattle.board_rule.specs.declared.view.MainView.{MainView}
use Rattle.vertex_claims.specs.Ended.{IsEnd}
use Rattle.vertex_claims.specs.MarkLists.{MarkList}
use Rattle.vertex_claims.specs.Marks.{marks_of}
use Rattle.vertex_claims.specs.Passes.{IsOf, marks_left, round_of}
use Rattle.vertex_claims.specs.declared.board.Board.{Board}
use Rattle.round_rules.specs.Accounts.{OwnAll, Done, quits}
use Rattle.round_rules.specs.Tasks.{Scene, task_at}
use Rattle.round_rules.specs.declared.tried.Tried.{Tried}
use Rattle.round_rules.specs.declared.tried.Tried.TheVariants.{NoMemory}
use Rattle.spec_worker.specs.Workers.{Works, IsSameWorker, pass_of, number_of, tries_of, mine_of, answers_of, plan_of, round_in, live_of, free_of as free_to, task_in}
use Rattle.spec_worker.specs.declared.worker.Worker.{Worker}

-- a worker of this board may make its tries, of which it made none
pub record IsReady (board : Board) (a : Worker) : Type 0 where
  pub works : Works a board
  pub room : (plan_of a).tries ≤ marks_left (pass_of a)
  pub answers : answers_of a ≡ []
  pub tries : tries_of a ≡ []
  pub mine : mine_of a ≡ []

-- it is worker w of this round
pub record IsNew (s : Scene) (board : Board) (w : ℕ) (a : Worker) : Type 0 where
  pub ready : IsReady board a
  pub number : number_of a ≡ w
  pub plan : plan_of a ≡ s.plan
  pub round_is : round_in a ≡ s.round
  pub live : live_of a ≡ used s.start.facets
  pub free : free_to a ≡ free_of s.start.facets s.places

-- they are the workers of this round from worker w on
abbrev pub AreNew : Scene → Board → ℕ → List Worker → Type 0
AreNew s board w [] = ⊤
AreNew s board w (a ∷ rest) = IsNew s board w a × AreNew s board (w + 1) rest

-- a worker b is what worker a became by its tries, with a gate that came in as g and went out as h
module _ {A : Type 0} where
  pub record HasRun (count : A → ℕ) (board : Board) (a b : Worker) (g h : A) : Type 0 where
    pub works : Works b board
    pub same : IsSameWorker a b
    pub own : OwnAll (task_in a board) (round_of board) (number_of a) (tries_of b) (answers_of b) (mine_of b)
    pub done : Done (plan_of a).tries (answers_of b)
    pub quits_are : count g + quits (answers_of b) ≤ count h

  -- each worker with the gate of its own place, and the gates behind them are as they were
  abbrev pub HaveRun : (A → ℕ) → Board → List Worker → List Worker → List A → List A → Type 0
  HaveRun count board [] [] gs hs = hs ≡ gs
  HaveRun count board [] (b ∷ bs) gs hs = ⊥
  HaveRun count board (a ∷ rest) [] gs hs = ⊥
  HaveRun count board (a ∷ rest) (b ∷ bs) [] hs = ⊥
  HaveRun count board (a ∷ rest) (b ∷ bs) (g ∷ gs) [] = ⊥
  HaveRun count board (a ∷ rest) (b ∷ bs) (g ∷ gs) (h ∷ hs) = HasRun count board a b g h × HaveRun count board rest bs gs hs

-- worker w of this round made all of its tries
pub record IsDone (s : Scene) (board : Board) (w : ℕ) (a : Worker) : Type 0 where
  pub of_board : IsOf (pass_of a) board
  pub number : number_of a ≡ w
  pub own : OwnAll (task_at s w) s.round w (tries_of a) (answers_of a) (mine_of a)
  pub done : Done s.plan.tries (answers_of a)

-- they are the workers of this round from worker w on, and made all of their tries
abbrev pub AreDone : Scene → Board → ℕ → List Worker → Type 0
AreDone s board w [] = ⊤
AreDone s board w (a ∷ rest) = IsDone s board w a × AreDone s board (w + 1) rest

-- no try of these answers wanted memory
abbrev pub NoneWanted : List Tried → Type 0
NoneWanted answers = AllByRecursion (λ a. a ≢ NoMemory) answers

-- worker w was taken back: main keeps its entries and tries, and these are its marks and answers
pub record IsSettled (board : Board) (c : MainView) (w : ℕ) (a : Worker) (marks : MarkList) (answers : List Tried) : Type 0 where
  pub kept_is : get_elem? c.back w ≡ some (kept true (mine_of a) (tries_of a))
  pub worker : marks.worker ≡ w
  pub round_is : marks.round ≡ round_of board
  pub list : marks.list ≡ marks_of (tries_of a)
  pub answers_are : answers ≡ answers_of a
  pub told : NoneWanted answers

-- they were taken back, from worker w on
abbrev pub AreSettled : Board → MainView → ℕ → List Worker → List MarkList → List (List Tried) → Type 0
AreSettled board c w [] [] [] = ⊤
AreSettled board c w [] [] (t ∷ ts) = ⊥
AreSettled board c w [] (m ∷ ms) ts = ⊥
AreSettled board c w (a ∷ rest) [] ts = ⊥
AreSettled board c w (a ∷ rest) (m ∷ ms) [] = ⊥
AreSettled board c w (a ∷ rest) (m ∷ ms) (t ∷ ts) = IsSettled board c w a m t × AreSettled board c (w + 1) rest ms ts

-- the board was closed with these entries, and this complex has the stars that were left
pub record HasClosed (setup : Setup) (c : MainView) (entries : List JournalEntry) (end : ComplexView) : Type 0 where
  pub stars : StarList
  pub closed : IsEnd setup c entries stars
  pub end_is : IsStarListOf end stars
