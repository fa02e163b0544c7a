-- The run of a worker, try after try.
use Rattle.std.proofs.Common.{◌≡◌, ◌⊎◌, ℕ, ◌+◌, ◌*◌, ◌<◌, ◌≤◌, List, [], ◌∷◌, ◌++◌, length, sym, ◌∙◌, ap, refl, subst, inl, inr, arith}
use Rattle.std.proofs.lemmas.List.{length-append}
use Rattle.std.specs.List.{AllByRecursion}
use Rattle.rand_pcg.specs.Lcg.{Lcg}
use Rattle.complex_core.proofs.Sorting.{each_append}
use Rattle.flip_rules.specs.Entries.{JournalEntry}
use Rattle.board_rule.specs.Tries.{Try}
use Rattle.anneal_plan.specs.Limits.{phase_at}
use Rattle.anneal_plan.specs.Numbers.{Numbers}
use Rattle.anneal_plan.specs.Words.{words_from, after_words, draw_at, stream_of, stream_number}
use Rattle.anneal_plan.specs.declared.plan.Phase.{Phase}
use Rattle.vertex_claims.specs.Passes.{IsOf, IsSame, know, places_on, round_of, start_of}
use Rattle.vertex_claims.specs.declared.board.Board.{Board}
use Rattle.vertex_claims.specs.declared.pass.Pass.{Pass}
use Rattle.round_rules.specs.Accounts.{OwnRun, GoesOn, quits}
use Rattle.round_rules.specs.Own.{OwnTry}
use Rattle.round_rules.specs.Tasks.{Task}
use Rattle.round_rules.specs.declared.tried.Tried.{Tried}
use Rattle.round_rules.specs.declared.tried.Tried.TheVariants.{Committed, Busy, Nothing, Blocked, Declined, Quit, NoMemory}
use Rattle.spec_worker.specs.Workers.{Works, IsSameWorker, ArePlaces, pass_of, number_of, tries_of, mine_of, answers_of, plan_of, round_in, live_of, free_of, task_of, task_in}
use Rattle.spec_worker.specs.declared.worker.Worker.{Worker}
use Rattle.anneal_plan.proofs.WordLists.{after-zero, after-add}
use Rattle.held_stars.proofs.LentStars.{same_passes}

-- ---- the words of each try

-- draw t is followed by draw t + 1
after_draw : (t : ℕ) (g : Lcg) → after_words (after_words g (8 * t)) 8 ≡ after_words g (8 * (t + 1))
after_draw t g = sym (after-add (8 * t) 8 g) ∙ ap (after_words g) (let e : 8 * t + 8 ≡ 8 * (t + 1) = omega arith in e)

-- ---- the answers

pub quits_snoc : (xs : List Tried) (a : Tried) → quits (xs ++ a ∷ []) ≡ quits (a ∷ []) + quits xs
quits_snoc [] a = omega arith
quits_snoc (Quit ∷ xs) a = let e = quits_snoc xs a in omega (arith, e)
quits_snoc (Committed s ∷ xs) a = quits_snoc xs a
quits_snoc (Busy q o ∷ xs) a = quits_snoc xs a
quits_snoc (Nothing ∷ xs) a = quits_snoc xs a
quits_snoc (Blocked f ∷ xs) a = quits_snoc xs a
quits_snoc (Declined c ∷ xs) a = quits_snoc xs a
quits_snoc (NoMemory ∷ xs) a = quits_snoc xs a

calm_has_no_quit : (xs : List Tried) → AllByRecursion GoesOn xs → quits xs ≡ 0
calm_has_no_quit [] h = refl
calm_has_no_quit (Quit ∷ xs) h = absurd (h.0.0 refl)
calm_has_no_quit (Committed s ∷ xs) h = calm_has_no_quit xs h.1
calm_has_no_quit (Busy q o ∷ xs) h = calm_has_no_quit xs h.1
calm_has_no_quit (Nothing ∷ xs) h = calm_has_no_quit xs h.1
calm_has_no_quit (Blocked f ∷ xs) h = calm_has_no_quit xs h.1
calm_has_no_quit (Declined c ∷ xs) h = calm_has_no_quit xs h.1
calm_has_no_quit (NoMemory ∷ xs) h = calm_has_no_quit xs h.1

-- ---- the account

-- one try more, which was made
own_more : (tasks : ℕ → Task) (round w : ℕ) (ts us : List Try) (was now : List JournalEntry) (xs : List Tried) (a : Tried)
    → OwnRun tasks round w ts xs was → ((t : Try) × (us ≡ t ∷ ts) × OwnTry (tasks (length ts)) round w t was now a) → OwnRun tasks round w us (xs ++ a ∷ []) now
own_more tasks round w ts us was now xs a run one =
    let step : OwnRun tasks round w (one.0 ∷ ts) (xs ++ a ∷ []) now = record { was = was; earlier = xs; last = a; all = refl; before = run; one = one.2 } in
    subst (λ (l : List Try). OwnRun tasks round w l (xs ++ a ∷ []) now) (sym one.1) step

-- ---- workers

pub same_workers : (a b c : Worker) → IsSameWorker a b → IsSameWorker b c → IsSameWorker a c
same_workers a b c f g = record {
  pass = same_passes (pass_of a) (pass_of b) (pass_of c) f.pass g.pass;
  number = g.number ∙ f.number;
  plan = g.plan ∙ f.plan;
  round_is = g.round_is ∙ f.round_is;
  live = g.live ∙ f.live;
  free = g.free ∙ f.free;
}

pub same_self : (a : Worker) → IsSameWorker a a
same_self a = record { pass = record { table = refl; worker = refl; places = refl; limit = refl }; number = refl; plan = refl; round_is = refl; live = refl; free = refl }

-- the generator of a worker
abbrev pub stream_in : Worker → Lcg
stream_in w = stream_of (plan_of w).seed (stream_number (round_in w) (number_of w))

-- the generator after its first draws
pub record Drawn (start now : Lcg) (t : ℕ) : Type 0 where
  pub is : now ≡ after_words start (8 * t)

-- after t tries of worker a, which is worker b now, none of which ended it
pub record Running (a b : Worker) (board : Board) (t : ℕ) : Type 0 where
  pub works : Works b board
  pub same : IsSameWorker a b
  pub answers : length (answers_of b) ≡ t
  pub tries : length (tries_of b) ≡ t
  pub calm : AllByRecursion GoesOn (answers_of b)
  pub own : OwnRun (task_in a board) (round_of board) (number_of a) (tries_of b) (answers_of b) (mine_of b)

-- what a try says of the worker before it and after it
pub record Attempted (b c : Worker) (board : Board) (words : List ℕ) (phase : Phase) (a : Tried) : Type 0 where
  pub works : Works c board
  pub same : IsSameWorker b c
  pub answers : answers_of c ≡ answers_of b ++ a ∷ []
  pub own : ((t : Try) × (tries_of c ≡ t ∷ tries_of b) × OwnTry (task_of b board words phase) (round_of board) (number_of b) t (mine_of b) (mine_of c) a)
      ⊎ ((a ≡ Quit) × (know (pass_of c) ≡ know (pass_of b)))

-- its words and its phase are those of try t
pub record IsDraw (a : Worker) (t : ℕ) (words : List ℕ) (phase : Phase) : Type 0 where
  pub words_are : words ≡ draw_at (stream_in a) t
  pub phase_is : phase ≡ phase_at (plan_of a) t

-- the same worker at its start
pub record Equals (a b : Worker) : Type 0 where
  pub pass : pass_of b ≡ pass_of a
  pub plan : plan_of b ≡ plan_of a
  pub round_is : round_in b ≡ round_in a
  pub live : live_of b ≡ live_of a
  pub free : free_of b ≡ free_of a
  pub answers : answers_of b ≡ answers_of a

equal_workers : (a b : Worker) → Equals a b → IsSameWorker a b
equal_workers a b e = record {
  pass = subst (IsSame (pass_of a)) (sym e.pass) record { table = refl; worker = refl; places = refl; limit = refl };
  number = ap (λ p. (know p).worker) e.pass;
  plan = e.plan;
  round_is = e.round_is;
  live = e.live;
  free = e.free;
}

equal_works : (a b : Worker) (board : Board) → Equals a b → Works a board → Works b board
equal_works a b board e w = record {
  of_board = subst (λ (p : Pass). IsOf p board) (sym e.pass) w.of_board;
  start = ap (λ p. (know p).start) e.pass ∙ w.start;
  places = ap (λ p. (know p).places) e.pass ∙ w.places;
  live = subst (λ (xs : List ℕ). ArePlaces xs (places_on board)) (sym e.live) w.live;
  free = subst (λ (xs : List ℕ). ArePlaces xs (places_on board)) (sym e.free) w.free;
  dim = w.dim;
}

pub begins : (a b : Worker) (board : Board) → Equals a b → Works a board → answers_of a ≡ [] → tries_of a ≡ [] → mine_of a ≡ [] → Running a b board 0
begins a b board e works none idle clear =
    let answers : answers_of b ≡ [] = e.answers ∙ none in
    let tries : tries_of b ≡ [] = ap (λ p. (know p).tries) e.pass ∙ idle in
    let mine : mine_of b ≡ [] = ap (λ p. (know p).mine) e.pass ∙ clear in
    record {
      works = equal_works a b board e works;
      same = equal_workers a b e;
      answers = ap length answers;
      tries = ap length tries;
      calm = subst (AllByRecursion GoesOn) (sym answers) tt;
      own = subst (λ (l : List Try). OwnRun (task_in a board) (round_of board) (number_of a) l (answers_of b) (mine_of b)) (sym tries) (answers, mine);
    }

pub equal_runs : (a b c : Worker) (board : Board) (t : ℕ) → Equals b c → Running a b board t → Running a c board t
equal_runs a b c board t e run =
    let tries : tries_of c ≡ tries_of b = ap (λ p. (know p).tries) e.pass in
    let mine : mine_of c ≡ mine_of b = ap (λ p. (know p).mine) e.pass in
    let OwnAt : List Try → List Tried → List JournalEntry → Type 0 = OwnRun (task_in a board) (round_of board) (number_of a) in
    record {
      works = equal_works b c board e run.works;
      same = same_workers a b c run.same (equal_workers b c e);
      answers = ap length e.answers ∙ run.answers;
      tries = ap length tries ∙ run.tries;
      calm = subst (AllByRecursion GoesOn) (sym e.answers) run.calm;
      own = subst (λ (l : List Try). OwnAt l (answers_of c) (mine_of c)) (sym tries) (subst (λ (xs : List Tried). OwnAt (tries_of b) xs (mine_of c)) (sym e.answers) (subst (λ (m : List JournalEntry). OwnAt (tries_of b) (answers_of b) m) (sym mine) run.own));
    }

pub first_draw : (a : Worker) (now : Lcg) (n : ℕ) → now ≡ stream_of (plan_of a).seed (stream_number (round_in a) n) → n ≡ number_of a → Drawn (stream_in a) now 0
first_draw a now n e w = record { is = e ∙ ap (λ k. stream_of (plan_of a).seed (stream_number (round_in a) k)) w ∙ sym (after-zero (stream_in a)) }

-- the words are those of draw t, and the generator is ready for the next
pub drawn_words : (start g : Lcg) (t : ℕ) (words : List ℕ) → Drawn start g t → words ≡ words_from g 8 → words ≡ draw_at start t
drawn_words start g t words d e = e ∙ ap (λ s. words_from s 8) d.is

pub told_phase : (m n : Numbers) (t : ℕ) (phase : Phase) → n ≡ m → phase ≡ phase_at n t → phase ≡ phase_at m t
told_phase m n t phase same e = e ∙ ap (λ k. phase_at k t) same

pub next_draw : (start g h : Lcg) (t : ℕ) → Drawn start g t → h ≡ after_words g 8 → Drawn start h (t + 1)
next_draw start g h t d e = record { is = e ∙ ap (λ s. after_words s 8) d.is ∙ after_draw t start }

-- it was told the task of try t
told : (a b : Worker) (board : Board) (t : ℕ) (words : List ℕ) (phase : Phase) → IsSameWorker a b → IsDraw a t words phase → task_of b board words phase ≡ task_in a board t
told a b board t words phase s d =
    λ i. record { dim = (start_of board).dim; phase = d.phase_is i; words = d.words_are i; live = s.live i; free = s.free i; depth = (s.plan i).depth }

-- the answer is of a try that was made
made : (a b c : Worker) (board : Board) (t : ℕ) (words : List ℕ) (phase : Phase) (r : Tried)
    → Running a b board t → IsDraw a t words phase → Attempted b c board words phase r → GoesOn r
    → (u : Try) × (tries_of c ≡ u ∷ tries_of b) × OwnTry (task_in a board (length (tries_of b))) (round_of board) (number_of a) u (mine_of b) (mine_of c) r
made a b c board t words phase r run d step on =
    let told_is : task_of b board words phase ≡ task_in a board (length (tries_of b)) = told a b board t words phase run.same d ∙ ap (task_in a board) (sym run.tries) in
    elim step.own [
      | inl m ↦ (m.0, m.1, subst (λ (k : Task). OwnTry k (round_of board) (number_of a) m.0 (mine_of b) (mine_of c) r) told_is (subst (λ (n : ℕ). OwnTry (task_of b board words phase) (round_of board) n m.0 (mine_of b) (mine_of c) r) run.same.number m.2))
      | inr q ↦ absurd (on.0 q.0)
    ]

pub goes_on : (a b c : Worker) (board : Board) (t : ℕ) (words : List ℕ) (phase : Phase) (r : Tried)
    → Running a b board t → IsDraw a t words phase → Attempted b c board words phase r → GoesOn r → Running a c board (t + 1)
goes_on a b c board t words phase r run d step on =
    let m = made a b c board t words phase r run d step on in
    record {
      works = step.works;
      same = same_workers a b c run.same step.same;
      answers = let e = ap length step.answers in let l = length-append (answers_of b) (r ∷ []) in let n = run.answers in omega (arith, e, l, n);
      tries = let e = ap length m.1 in let n = run.tries in omega (arith, e, n);
      calm = subst (AllByRecursion GoesOn) (sym step.answers) (each_append GoesOn (answers_of b) (r ∷ []) run.calm (on, tt));
      own = subst (λ (xs : List Tried). OwnRun (task_in a board) (round_of board) (number_of a) (tries_of c) xs (mine_of c)) (sym step.answers)
          (own_more (task_in a board) (round_of board) (number_of a) (tries_of b) (tries_of c) (mine_of b) (mine_of c) (answers_of b) r run.own m);
    }

-- ---- the gate's count

quits_at : (xs : List Tried) (a r : Tried) → AllByRecursion GoesOn xs → r ≡ a → quits (xs ++ r ∷ []) ≡ quits (a ∷ [])
quits_at xs a r calm e = ap (λ (b : Tried). quits (xs ++ b ∷ [])) e ∙ quits_snoc xs a ∙ (let z = calm_has_no_quit xs calm in omega (arith, z))

-- the last answer is a quit, or want of memory
pub last_quits : (xs ys : List Tried) (r : Tried) (start before now : ℕ)
    → AllByRecursion GoesOn xs → ys ≡ xs ++ r ∷ [] → start ≤ before → before ≤ now → (r ≡ Quit → before < now) → (r ≡ Quit) ⊎ (r ≡ NoMemory) → start + quits ys ≤ now
last_quits xs ys r start before now calm whole low later rose last =
    elim last [
      | inl q ↦ let n = ap quits whole ∙ quits_at xs Quit r calm q in let up = rose q in omega (arith, n, up, low)
      | inr m ↦ let n = ap quits whole ∙ quits_at xs NoMemory r calm m in omega (arith, n, low, later)
    ]

-- no answer is a quit
pub no_quits : (xs : List Tried) (start now : ℕ) → AllByRecursion GoesOn xs → start ≤ now → start + quits xs ≤ now
no_quits xs start now calm low = let z = calm_has_no_quit xs calm in omega (arith, z, low)
