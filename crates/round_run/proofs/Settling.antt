-- Workers that are taken back, one after another.
use Rattle.std.proofs.Common.{◌≡◌, ℕ, zero, suc, ◌+◌, ◌-◌, ◌<◌, List, [], ◌∷◌, ◌++◌, length, get_or, sym, refl, ap, ◌∙◌, subst, arith, true}
use mathlib.Core.Option.{some, some-injective}
use lib.ListN.{get_elem?}
use Rattle.atomic_table.proofs.Lists.{set_here, set_else}
use Rattle.board_rule.specs.Ends.{AllBack}
use Rattle.board_rule.specs.Views.{kept, one_back}
use Rattle.board_rule.specs.declared.kept.Kept.{Kept}
use Rattle.board_rule.specs.declared.view.MainView.{MainView}
use Rattle.board_rule.proofs.Seats.{within}
use Rattle.vertex_claims.specs.MarkLists.{MarkList}
use Rattle.vertex_claims.specs.Marks.{marks_of}
use Rattle.vertex_claims.specs.Passes.{know, round_of}
use Rattle.vertex_claims.specs.declared.board.Board.{Board}
use Rattle.round_rules.specs.Tasks.{Scene}
use Rattle.round_rules.specs.declared.tried.Tried.{Tried}
use Rattle.spec_worker.specs.Workers.{pass_of, number_of, tries_of, mine_of, answers_of}
use Rattle.spec_worker.specs.declared.worker.Worker.{Worker}
use Rattle.round_run.specs.Crews.{NoneWanted, IsDone, AreDone, IsSettled, AreSettled}

-- one of the workers that made their tries
pub done_at : (s : Scene) (board : Board) (w i : ℕ) (crew : List Worker) (a : Worker) → AreDone s board w crew → i < length crew → a ≡ get_or crew i a → IsDone s board (w + i) a
done_at s board w i [] a h low is = absurd (omega (arith, low))
done_at s board w zero (x ∷ xs) a h low is = let e : w ≡ w + 0 = omega arith in subst (λ (b : Worker). IsDone s board (w + 0) b) (sym is) (subst (λ (n : ℕ). IsDone s board n x) e h.0)
done_at s board w (suc i) (x ∷ xs) a h low is = let e : w + 1 + i ≡ w + suc i = omega arith in subst (λ (n : ℕ). IsDone s board n a) e (done_at s board (w + 1) i xs a h.1 (omega (arith, low)) is)

module _ (board : Board) where
  -- main may keep more
  settled_still : (c d : MainView) (w : ℕ) (crew : List Worker) (ms : List MarkList) (ts : List (List Tried)) → ((i : ℕ) → i < w + length crew → get_elem? d.back i ≡ get_elem? c.back i) → AreSettled board c w crew ms ts → AreSettled board d w crew ms ts
  settled_still c d w [] [] [] same h = tt
  settled_still c d w [] [] (t ∷ ts) same h = absurd h
  settled_still c d w [] (m ∷ ms) ts same h = absurd h
  settled_still c d w (a ∷ rest) [] ts same h = absurd h
  settled_still c d w (a ∷ rest) (m ∷ ms) [] same h = absurd h
  settled_still c d w (a ∷ rest) (m ∷ ms) (t ∷ ts) same h =
      let one = h.0 in
      (record { kept_is = same w (omega arith) ∙ one.kept_is; worker = one.worker; round_is = one.round_is; list = one.list; answers_are = one.answers_are; told = one.told }, settled_still c d (w + 1) rest ms ts (λ i low. same i (omega (arith, low))) h.1)

  -- one more
  settled_last : (c : MainView) (w : ℕ) (crew : List Worker) (ms : List MarkList) (ts : List (List Tried)) (a : Worker) (m : MarkList) (t : List Tried) → AreSettled board c w crew ms ts → IsSettled board c (w + length crew) a m t → AreSettled board c w (crew ++ a ∷ []) (ms ++ m ∷ []) (ts ++ t ∷ [])
  settled_last c w [] [] [] a m t h one = let e : w + 0 ≡ w = omega arith in (subst (λ (n : ℕ). IsSettled board c n a m t) e one, tt)
  settled_last c w [] [] (y ∷ ys) a m t h one = absurd h
  settled_last c w [] (x ∷ xs) ys a m t h one = absurd h
  settled_last c w (b ∷ rest) [] ys a m t h one = absurd h
  settled_last c w (b ∷ rest) (x ∷ xs) [] a m t h one = absurd h
  settled_last c w (b ∷ rest) (x ∷ xs) (y ∷ ys) a m t h one =
      let e : w + suc (length rest) ≡ w + 1 + length rest = omega arith in
      (h.0, settled_last c (w + 1) rest xs ys a m t h.1 (subst (λ (n : ℕ). IsSettled board c n a m t) e one))

  pub one_settled : (c d : MainView) (crew : List Worker) (ms more : List MarkList) (ts longer : List (List Tried)) (a : Worker) (m : MarkList) (t : List Tried) (n : ℕ) → AreSettled board c 1 crew ms ts → length c.back ≡ n + 1 → length crew < n → number_of a ≡ 1 + length crew
      → d ≡ one_back c (know (pass_of a)) → (m.worker ≡ number_of a) × (m.round ≡ round_of board) × (m.list ≡ marks_of (tries_of a)) → (t ≡ answers_of a) × NoneWanted t → more ≡ ms ++ m ∷ [] → longer ≡ ts ++ t ∷ [] → AreSettled board d 1 (crew ++ a ∷ []) more longer
  one_settled c d crew ms more ts longer a m t n h long inside number back marks answers more_is longer_is =
      let pass_view = know (pass_of a) in
      let last : Kept = kept true pass_view.mine pass_view.tries in
      let next : MainView = one_back c pass_view in
      let here : get_elem? next.back (1 + length crew) ≡ some last = subst (λ (k : ℕ). get_elem? next.back k ≡ some last) number (set_here c.back pass_view.worker last (omega (arith, number, long, inside))) in
      let still = settled_still c next 1 crew ms ts (λ i low. set_else c.back pass_view.worker i last (λ e. absurd (omega (arith, e, number, low)))) h in
      let one : IsSettled board next (1 + length crew) a m t = record { kept_is = here; worker = marks.0 ∙ number; round_is = marks.1; list = marks.2; answers_are = answers.0; told = answers.1 } in
      subst (λ (k : MainView). AreSettled board k 1 (crew ++ a ∷ []) more longer) (sym back)
      (subst (λ (l : List MarkList). AreSettled board next 1 (crew ++ a ∷ []) l longer) (sym more_is)
      (subst (λ (l : List (List Tried)). AreSettled board next 1 (crew ++ a ∷ []) (ms ++ m ∷ []) l) (sym longer_is) (settled_last next 1 crew ms ts a m t still one)))

  -- ---- all are taken back

  lasting : (c : MainView) (w : ℕ) (crew : List Worker) (ms : List MarkList) (ts : List (List Tried)) → AreSettled board c w crew ms ts → (i : ℕ) (k : Kept) → i < length crew → get_elem? c.back (w + i) ≡ some k → k.gone ≡ true
  lasting c w [] ms ts h i k low at = absurd (omega (arith, low))
  lasting c w (a ∷ rest) [] ts h i k low at = absurd h
  lasting c w (a ∷ rest) (m ∷ ms) [] h i k low at = absurd h
  lasting c w (a ∷ rest) (m ∷ ms) (t ∷ ts) h zero k low at =
      let e : w + 0 ≡ w = omega arith in
      let last : Kept = kept true (mine_of a) (tries_of a) in
      ap (λ (x : Kept). x.gone) (some-injective k last (sym at ∙ (ap (get_elem? c.back) e ∙ h.0.kept_is)))
  lasting c w (a ∷ rest) (m ∷ ms) (t ∷ ts) h (suc i) k low at =
      let e : w + suc i ≡ w + 1 + i = omega arith in
      lasting c (w + 1) rest ms ts h.1 i k (omega (arith, low)) (sym (ap (get_elem? c.back) e) ∙ at)

  pub all_back : (c : MainView) (crew : List Worker) (ms : List MarkList) (ts : List (List Tried)) → length c.back ≡ length crew + 1 → AreSettled board c 1 crew ms ts → AllBack c
  all_back c crew ms ts long h w k low at =
      let high = within c.back w k at in
      let e : 1 + (w - 1) ≡ w = omega (arith, low) in
      lasting c 1 crew ms ts h (w - 1) k (omega (arith, high, long, low)) (ap (get_elem? c.back) e ∙ at)

  -- one list of marks and one of answers for each
  pub settled_long : (c : MainView) (w : ℕ) (crew : List Worker) (ms : List MarkList) (ts : List (List Tried)) → AreSettled board c w crew ms ts → (length ms ≡ length crew) × (length ts ≡ length crew)
  settled_long c w [] [] [] h = (refl, refl)
  settled_long c w [] [] (t ∷ ts) h = absurd h
  settled_long c w [] (m ∷ ms) ts h = absurd h
  settled_long c w (a ∷ rest) [] ts h = absurd h
  settled_long c w (a ∷ rest) (m ∷ ms) [] h = absurd h
  settled_long c w (a ∷ rest) (m ∷ ms) (t ∷ ts) h = let r = settled_long c (w + 1) rest ms ts h.1 in (ap suc r.0, ap suc r.1)
