-- A round that is over: what its workers and its board say.
use Rattle.std.proofs.Common.{◌≡◌, ℕ, zero, suc, ◌+◌, ◌-◌, true, List, [], ◌∷◌, length, sym, ◌∙◌, ap, subst, arith, Result, Ok, Err, IfOk}
use mathlib.Core.Option.{some, some-injective, some-ne-none}
use lib.ListN.{get_elem?}
use Rattle.complex_core.specs.Complexes.{ComplexView, IsComplex}
use Rattle.flip_rules.specs.Journals.{flat}
use Rattle.flip_rules.specs.Entries.{JournalEntry}
use Rattle.flip_rules.proofs.Replays.{replay_dim}
use Rattle.stars.specs.StarViews.{UsesUpTo}
use Rattle.board_rule.specs.Views.{kept}
use Rattle.board_rule.specs.declared.setup.Setup.{Setup}
use Rattle.board_rule.specs.declared.view.MainView.{MainView}
use Rattle.vertex_claims.specs.MarkLists.{MarkList}
use Rattle.vertex_claims.specs.Passes.{IsTold, setup_of, start_of, round_of}
use Rattle.vertex_claims.specs.declared.board.Board.{Board}
use Rattle.round_rules.specs.Laws.{IsAccount, IsGathered}
use Rattle.round_rules.specs.Rounds.{RoundView, RoundOk}
use Rattle.round_rules.specs.Accounts.{OwnAll, Done}
use Rattle.round_rules.specs.Tasks.{Scene, task_at}
use Rattle.round_rules.specs.declared.tried.Tried.{Tried}
use Rattle.round_rules.proofs.Gathering.{round_ok}
use Rattle.spec_worker.specs.Workers.{mine_of, tries_of}
use Rattle.spec_worker.specs.declared.worker.Worker.{Worker}
use Rattle.round_run.specs.Crews.{AreDone, AreSettled, HasClosed}
use Rattle.round_run.proofs.Settling.{settled_long}

-- what is said of worker w + i
module _ (s : Scene) (board : Board) (c : MainView) (round_is : round_of board ≡ s.round) where
  account : (w i : ℕ) (crew : List Worker) (ms : List MarkList) (ts : List (List Tried)) (m : MarkList) (t : List Tried) → AreDone s board w crew → AreSettled board c w crew ms ts → get_elem? ms i ≡ some m → get_elem? ts i ≡ some t → IsAccount s c (w + i) m t
  account w i [] [] [] m t d h at there = absurd (some-ne-none m (sym at))
  account w i [] [] (y ∷ ys) m t d h at there = absurd h
  account w i [] (x ∷ xs) ts m t d h at there = absurd h
  account w i (a ∷ rest) [] ts m t d h at there = absurd h
  account w i (a ∷ rest) (x ∷ xs) [] m t d h at there = absurd h
  account w (suc i) (a ∷ rest) (x ∷ xs) (y ∷ ys) m t d h at there =
      let e : w + 1 + i ≡ w + suc i = omega arith in
      subst (λ (n : ℕ). IsAccount s c n m t) e (account (w + 1) i rest xs ys m t d.1 h.1 at there)
  account w zero (a ∷ rest) (x ∷ xs) (y ∷ ys) m t d h at there =
      let e : w ≡ w + 0 = omega arith in
      let is_m : x ≡ m = some-injective x m at in
      let is_t : y ≡ t = some-injective y t there in
      let one = h.0 in
      subst (λ (n : ℕ). IsAccount s c n m t) e
      (subst (λ (l : MarkList). IsAccount s c w l t) is_m
      (subst (λ (l : List Tried). IsAccount s c w x l) is_t
      (record {
        kept = kept true (mine_of a) (tries_of a);
        is = one.kept_is;
        worker = one.worker;
        round_is = one.round_is ∙ round_is;
        list = one.list;
        own = subst (λ (l : List Tried). OwnAll (task_at s w) s.round w (tries_of a) l (mine_of a)) (sym one.answers_are) d.0.own;
        done = subst (Done s.plan.tries) (sym one.answers_are) d.0.done;
        told = one.told;
      })))

module _ (s : Scene) (board : Board) (most : ℕ) (told : IsTold board s.start s.places most s.round) (complex : IsComplex (start_of board)) (c : MainView) where
  gathered : (crew : List Worker) (r : RoundView) (end : ComplexView) (h : HasClosed (setup_of board) c r.entries end) → length c.back ≡ s.plan.workers + 1 → length crew ≡ s.plan.workers → AreDone s board 1 crew → AreSettled board c 1 crew r.marks r.tries → r.round ≡ s.round → IsGathered s (setup_of board) c r h.stars
  gathered crew r end h long count done settled round_is =
      let sizes = settled_long board c 1 crew r.marks r.tries settled in
      record {
        board = record { start = told.start_is; complex = subst IsComplex told.start_is complex; places = told.places_are; round_is = told.round_is; workers = long };
        closed = h.closed;
        round_is = round_is;
        tries = sizes.1 ∙ count;
        marks = sizes.0 ∙ count;
        accounts = λ w m t low at there.
            let e : 1 + (w - 1) ≡ w = omega (arith, low) in
            subst (λ (n : ℕ). IsAccount s c n m t) e (account s board c told.round_is 1 (w - 1) crew r.marks r.tries m t done settled at there);
      }

  -- so the record is right, by the law of rounds
  right : (crew : List Worker) (r : RoundView) (end : ComplexView) → HasClosed (setup_of board) c r.entries end → length c.back ≡ s.plan.workers + 1 → length crew ≡ s.plan.workers → AreDone s board 1 crew → AreSettled board c 1 crew r.marks r.tries → r.round ≡ s.round → RoundOk s r end
  right crew r end h long count done settled round_is = round_ok s (setup_of board) c r h.stars (gathered crew r end h long count done settled round_is) end h.end_is

  pub right_if : {E : Type 0} (crew : List Worker) (r : Result (RoundView × ComplexView) E) (ms : List MarkList) (ts : List (List Tried)) → length c.back ≡ length crew + 1 → length crew ≡ s.plan.workers → AreDone s board 1 crew → AreSettled board c 1 crew ms ts
      → IfOk r (λ x. HasClosed (setup_of board) c x.0.entries x.1) → IfOk r (λ x. x.0.round ≡ s.round) → IfOk r (λ x. (x.0.tries ≡ ts) × (x.0.marks ≡ ms)) → IfOk r (λ x. RoundOk s x.0 x.1)
  right_if crew (Err e) ms ts long count done settled p q t = tt
  right_if crew (Ok x) ms ts long count done settled p q t =
      right crew x.0 x.1 p (long ∙ ap (λ (n : ℕ). n + 1) count) count done
      (subst (λ (l : List MarkList). AreSettled board c 1 crew l x.0.tries) (sym t.1) (subst (AreSettled board c 1 crew ms) (sym t.0) settled)) q

-- the end has the dimension and the places of the start
pub end_fits : (setup : Setup) (c : MainView) (entries : List JournalEntry) (start end : ComplexView) (places : ℕ) → HasClosed setup c entries end → setup.start.value ≡ start → setup.places ≡ places → (end.dim ≡ start.dim) × UsesUpTo end places
end_fits setup c entries start end places h start_is places_are =
    let closed = h.closed in
    let same = replay_dim setup.start.value closed.now (flat entries) closed.replays in
    (sym h.end_is.dim ∙ (closed.stars_are.dim ∙ (same ∙ ap (λ (k : ComplexView). k.dim) start_is)), subst (UsesUpTo end) (closed.places_are ∙ places_are) h.end_is.within)

pub fits_if : {E : Type 0} (setup : Setup) (c : MainView) (start : ComplexView) (places : ℕ) (r : Result (RoundView × ComplexView) E) → setup.start.value ≡ start → setup.places ≡ places → IfOk r (λ x. HasClosed setup c x.0.entries x.1) → IfOk r (λ x. (x.1.dim ≡ start.dim) × UsesUpTo x.1 places)
fits_if setup c start places (Err e) start_is places_are p = tt
fits_if setup c start places (Ok x) start_is places_are p = end_fits setup c x.0.entries start x.1 places p start_is places_are
