-- How often gates said that a try ends.
use Rattle.std.proofs.Common.{◌≡◌, ℕ, zero, suc, ◌+◌, ◌≤◌, List, [], ◌∷◌, length, refl, sym, ◌∙◌, ap, subst, arith, Result, Ok, Err, IfOk}
use mathlib.Core.Option.{some, some-injective}
use lib.ListN.{get_elem?}
use Rattle.board_rule.specs.declared.view.MainView.{MainView}
use Rattle.vertex_claims.specs.MarkLists.{MarkList}
use Rattle.vertex_claims.specs.declared.board.Board.{Board}
use Rattle.complex_core.specs.Complexes.{ComplexView}
use Rattle.round_rules.specs.Accounts.{quits}
use Rattle.round_rules.specs.Rounds.{RoundView}
use Rattle.round_rules.specs.declared.tried.Tried.{Tried}
use Rattle.spec_worker.specs.declared.worker.Worker.{Worker}
use Rattle.round_run.specs.Crews.{HaveRun, AreSettled}
use Rattle.round_run.specs.Gates.{Rise, quits_at}

module _ {A : Type 0} (count : A → ℕ) where
  -- of one gate more
  rise_more : (g h : A) (gs hs : List A) (said : ℕ → ℕ) → count g + said 0 ≤ count h → Rise count gs hs (λ i. said (suc i)) → Rise count (g ∷ gs) (h ∷ hs) said
  rise_more g h gs hs said one rest = record { same = ap suc rest.same; rise = each }
    where
      each : (i : ℕ) (a b : A) → get_elem? (g ∷ gs) i ≡ some a → get_elem? (h ∷ hs) i ≡ some b → count a + said i ≤ count b
      each zero a b p q = subst (λ (x : A). count x + said 0 ≤ count b) (some-injective g a p) (subst (λ (x : A). count g + said 0 ≤ count x) (some-injective h b q) one)
      each (suc i) a b p q = rest.rise i a b p q

  -- none said anything
  pub at_rest : (gs hs : List A) (said : ℕ → ℕ) → hs ≡ gs → ((i : ℕ) → said i ≡ 0) → Rise count gs hs said
  at_rest gs hs said e none = record {
    same = ap length e;
    rise = λ i a b p q.
        let is : a ≡ b = some-injective a b (sym p ∙ (ap (λ (l : List A). get_elem? l i) (sym e) ∙ q)) in
        let counts = ap count is in
        let z = none i in
        omega (arith, counts, z);
  }

  -- those of workers that ran said at least as often as their workers quit
  pub rise_ran : (board : Board) (c : MainView) (w : ℕ) (was now : List Worker) (gs hs : List A) (ms : List MarkList) (ts : List (List Tried)) → HaveRun count board was now gs hs → AreSettled board c w now ms ts → Rise count gs hs (quits_at ts)
  rise_ran board c w [] [] gs hs [] [] r s = at_rest gs hs (quits_at []) r (λ i. refl)
  rise_ran board c w [] [] gs hs [] (t ∷ ts) r s = absurd s
  rise_ran board c w [] [] gs hs (m ∷ ms) ts r s = absurd s
  rise_ran board c w [] (b ∷ bs) gs hs ms ts r s = absurd r
  rise_ran board c w (a ∷ rest) [] gs hs ms ts r s = absurd r
  rise_ran board c w (a ∷ rest) (b ∷ bs) [] hs ms ts r s = absurd r
  rise_ran board c w (a ∷ rest) (b ∷ bs) (g ∷ gs) [] ms ts r s = absurd r
  rise_ran board c w (a ∷ rest) (b ∷ bs) (g ∷ gs) (h ∷ hs) [] ts r s = absurd s
  rise_ran board c w (a ∷ rest) (b ∷ bs) (g ∷ gs) (h ∷ hs) (m ∷ ms) [] r s = absurd s
  rise_ran board c w (a ∷ rest) (b ∷ bs) (g ∷ gs) (h ∷ hs) (m ∷ ms) (t ∷ ts) r s =
      let one = r.0.quits_are in
      let answers = ap quits s.0.answers_are in
      rise_more g h gs hs (quits_at (t ∷ ts)) (omega (arith, one, answers)) (rise_ran board c (w + 1) rest bs gs hs ms ts r.1 s.1)

  pub rise_if : {E : Type 0} (board : Board) (c : MainView) (was now : List Worker) (gs hs : List A) (ms : List MarkList) (ts : List (List Tried)) (r : Result (RoundView × ComplexView) E) → HaveRun count board was now gs hs → AreSettled board c 1 now ms ts → IfOk r (λ x. (x.0.tries ≡ ts) × (x.0.marks ≡ ms)) → IfOk r (λ x. Rise count gs hs (quits_at x.0.tries))
  rise_if board c was now gs hs ms ts (Err e) ran settled t = tt
  rise_if board c was now gs hs ms ts (Ok x) ran settled t = subst (λ (l : List (List Tried)). Rise count gs hs (quits_at l)) (sym t.0) (rise_ran board c 1 was now gs hs ms ts ran settled)

  -- and no count fell
  pub later_ran : (board : Board) (was now : List Worker) (gs hs : List A) → HaveRun count board was now gs hs → Rise count gs hs (λ _. 0)
  later_ran board [] [] gs hs r = at_rest gs hs (λ _. 0) r (λ i. refl)
  later_ran board [] (b ∷ bs) gs hs r = absurd r
  later_ran board (a ∷ rest) [] gs hs r = absurd r
  later_ran board (a ∷ rest) (b ∷ bs) [] hs r = absurd r
  later_ran board (a ∷ rest) (b ∷ bs) (g ∷ gs) [] r = absurd r
  later_ran board (a ∷ rest) (b ∷ bs) (g ∷ gs) (h ∷ hs) r = let one = r.0.quits_are in rise_more g h gs hs (λ _. 0) (omega (arith, one)) (later_ran board rest bs gs hs r.1)
