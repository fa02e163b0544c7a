-- What workers that ran say of their tries, in the words of the round.
use Rattle.std.proofs.Common.{◌≡◌, ℕ, zero, suc, ◌+◌, List, [], ◌∷◌, ◌++◌, length, take, drop, sym, ◌∙◌, ap, subst, arith}
use Rattle.std.specs.List.{All}
use Rattle.std.proofs.lemmas.List.{take_at}
use Rattle.vertex_claims.specs.Passes.{IsTold}
use Rattle.vertex_claims.specs.declared.board.Board.{Board}
use Rattle.anneal_plan.specs.Limits.{phase_at}
use Rattle.anneal_plan.specs.Numbers.{Numbers}
use Rattle.anneal_plan.specs.Words.{draw_at, stream_of, stream_number}
use Rattle.round_rules.specs.Accounts.{OwnAll, Done}
use Rattle.round_rules.specs.Tasks.{Scene, Task, task_at}
use Rattle.spec_worker.specs.Workers.{number_of, tries_of, mine_of, answers_of, task_in}
use Rattle.spec_worker.specs.declared.worker.Worker.{Worker}
use Rattle.round_run.specs.Crews.{IsReady, IsNew, AreNew, HasRun, HaveRun, IsDone, AreDone}

-- new workers may make their tries
pub all_ready : (s : Scene) (board : Board) (w : ℕ) (crew : List Worker) → AreNew s board w crew → All (IsReady board) crew
all_ready s board w [] h k d low = absurd (omega (arith, low))
all_ready s board w (a ∷ rest) h zero d low = h.0.ready
all_ready s board w (a ∷ rest) h (suc k) d low = all_ready s board (w + 1) rest h.1 k d (omega (arith, low))

module _ (s : Scene) (board : Board) (most : ℕ) (told : IsTold board s.start s.places most s.round) where
  -- try t of worker w is told what the round tells it
  same_tasks : (w : ℕ) (a : Worker) → IsNew s board w a → task_in a board ≡ task_at s w
  same_tasks w a n = λ i t. record {
    dim = (told.start_is i).dim;
    phase = phase_at (n.plan i) t;
    words = draw_at (stream_of (n.plan i).seed (stream_number (n.round_is i) (n.number i))) t;
    live = n.live i;
    free = n.free i;
    depth = (n.plan i).depth;
  }

  module _ {A : Type 0} (count : A → ℕ) where
    ran_one : (w : ℕ) (a b : Worker) (g h : A) → IsNew s board w a → HasRun count board a b g h → IsDone s board w b
    ran_one w a b g h n r = record {
      of_board = r.works.of_board;
      number = r.same.number ∙ n.number;
      own = subst (λ (f : ℕ → Task). OwnAll f s.round w (tries_of b) (answers_of b) (mine_of b)) (same_tasks w a n)
          (subst (λ (k : ℕ). OwnAll (task_in a board) s.round k (tries_of b) (answers_of b) (mine_of b)) n.number
          (subst (λ (k : ℕ). OwnAll (task_in a board) k (number_of a) (tries_of b) (answers_of b) (mine_of b)) told.round_is r.own));
      done = subst (λ (p : Numbers). Done p.tries (answers_of b)) n.plan r.done;
    }

    pub ran_all : (w : ℕ) (was now : List Worker) (gs hs : List A) → AreNew s board w was → HaveRun count board was now gs hs → AreDone s board w now
    ran_all w [] [] gs hs n r = tt
    ran_all w [] (b ∷ bs) gs hs n r = absurd r
    ran_all w (a ∷ rest) [] gs hs n r = absurd r
    ran_all w (a ∷ rest) (b ∷ bs) [] hs n r = absurd r
    ran_all w (a ∷ rest) (b ∷ bs) (g ∷ gs) [] n r = absurd r
    ran_all w (a ∷ rest) (b ∷ bs) (g ∷ gs) (h ∷ hs) n r = (ran_one w a b g h n.0 r.0, ran_all (w + 1) rest bs gs hs n.1 r.1)

-- as many workers as before
pub ran_length : {A : Type 0} (count : A → ℕ) (board : Board) (was now : List Worker) (gs hs : List A) → HaveRun count board was now gs hs → length now ≡ length was
ran_length count board [] [] gs hs r = omega arith
ran_length count board [] (b ∷ bs) gs hs r = absurd r
ran_length count board (a ∷ rest) [] gs hs r = absurd r
ran_length count board (a ∷ rest) (b ∷ bs) [] hs r = absurd r
ran_length count board (a ∷ rest) (b ∷ bs) (g ∷ gs) [] r = absurd r
ran_length count board (a ∷ rest) (b ∷ bs) (g ∷ gs) (h ∷ hs) r = ap suc (ran_length count board rest bs gs hs r.1)

module _ {A : Type 0} (count : A → ℕ) (board : Board) (was shown now : List Worker) (n : ℕ) (gs hs : List A) (long : length was ≡ n) (is : shown ≡ was) (r : HaveRun count board shown now gs hs) where
  -- a vector that was lent has them
  lent : take n (now ++ drop (length now) was) ≡ now
  lent = take_at now (drop (length now) was) n (ran_length count board shown now gs hs r ∙ (ap length is ∙ long))

  pub lent_ran : HaveRun count board was (take n (now ++ drop (length now) was)) gs hs
  lent_ran = subst (λ (l : List Worker). HaveRun count board was l gs hs) (sym lent) (subst (λ (l : List Worker). HaveRun count board l now gs hs) is r)

  pub lent_length : length (take n (now ++ drop (length now) was)) ≡ length was
  lent_length = ap length lent ∙ (ran_length count board shown now gs hs r ∙ ap length is)
