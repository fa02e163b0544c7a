-- Some tries of a worker, counted.
use Rattle.std.proofs.Common.{ℕ, ◌+◌, ◌<◌, ◌≤◌, List, [], ◌∷◌, length, ap, inl, inr, arith}
use Rattle.std.proofs.lemmas.List.{length-append}
use Rattle.anneal_plan.specs.declared.plan.Phase.{Phase}
use Rattle.vertex_claims.specs.Passes.{marks_left}
use Rattle.vertex_claims.specs.declared.board.Board.{Board}
use Rattle.round_rules.specs.declared.tried.Tried.{Tried}
use Rattle.spec_worker.specs.Workers.{Works, IsSameWorker, pass_of, answers_of, tries_of, plan_of}
use Rattle.spec_worker.specs.declared.worker.Worker.{Worker}
use Rattle.spec_worker.proofs.WholeRuns.{Attempted, same_self, same_workers}

-- at most so many tries were made
pub record Went (a b : Worker) (board : Board) (n : ℕ) : Type 0 where
  pub works : Works b board
  pub same : IsSameWorker a b
  pub answers : length (answers_of b) ≤ length (answers_of a) + n
  pub tries : length (tries_of b) ≤ length (tries_of a) + n

pub none_made : (a : Worker) (board : Board) → Works a board → Went a a board 0
none_made a board works = record { works = works; same = same_self a; answers = omega arith; tries = omega arith }

pub one_made : (a b c : Worker) (board : Board) (n : ℕ) (words : List ℕ) (phase : Phase) (r : Tried) → Went a b board n → Attempted b c board words phase r → Went a c board (n + 1)
one_made a b c board n words phase r went step = record {
  works = step.works;
  same = same_workers a b c went.same step.same;
  answers = let e = ap length step.answers in let l = length-append (answers_of b) (r ∷ []) in let k = went.answers in omega (arith, e, l, k);
  tries = let k = went.tries in elim step.own [
    | inl m ↦ let e = ap length m.1 in omega (arith, e, k)
    | inr q ↦ let e = ap (λ v. length v.tries) q.1 in omega (arith, e, k)
  ];
}

-- there is room for one more
pub has_room : (a b : Worker) (board : Board) (n most : ℕ) → Went a b board n → n < most → most ≤ marks_left (pass_of a) → length (answers_of a) + most ≤ (plan_of a).tries
    → (0 < marks_left (pass_of b)) × (length (answers_of b) < (plan_of b).tries)
has_room a b board n most went more marks answers =
    let limit = went.same.pass.limit in
    let plan = ap (λ p. p.tries) went.same.plan in
    let tries = went.tries in
    let told = went.answers in
    (omega (arith, limit, tries, more, marks), omega (arith, plan, told, more, answers))
