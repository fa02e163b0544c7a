-- Workers that ran in two halves ran all.
use Rattle.std.proofs.Common.{◌≡◌, ℕ, List, [], ◌∷◌, ◌++◌, length, sym, subst, arith}
use Rattle.vertex_claims.specs.declared.board.Board.{Board}
use Rattle.spec_worker.specs.declared.worker.Worker.{Worker}
use Rattle.round_run.specs.Crews.{HaveRun}

module _ {A : Type 0} (count : A → ℕ) (board : Board) where
  ran_both : (front front' back back' : List Worker) (first first' second second' : List A) → length front ≡ length first → HaveRun count board front front' first first' → HaveRun count board back back' second second' → HaveRun count board (front ++ back) (front' ++ back') (first ++ second) (first' ++ second')
  ran_both [] [] back back' [] hs second second' long f b = subst (λ (l : List A). HaveRun count board back back' second (l ++ second')) (sym f) b
  ran_both [] [] back back' (g ∷ gs) hs second second' long f b = absurd (omega (arith, long))
  ran_both [] (y ∷ ys) back back' gs hs second second' long f b = absurd f
  ran_both (x ∷ xs) [] back back' gs hs second second' long f b = absurd f
  ran_both (x ∷ xs) (y ∷ ys) back back' [] hs second second' long f b = absurd f
  ran_both (x ∷ xs) (y ∷ ys) back back' (g ∷ gs) [] second second' long f b = absurd f
  ran_both (x ∷ xs) (y ∷ ys) back back' (g ∷ gs) (h ∷ hs) second second' long f b = (f.0, ran_both xs ys back back' gs hs second second' (omega (arith, long)) f.1 b)

  pub ran_halves : (workers front front' back back' : List Worker) (gates first first' second second' : List A) → workers ≡ front ++ back → gates ≡ first ++ second → length front ≡ length first → HaveRun count board front front' first first' → HaveRun count board back back' second second' → HaveRun count board workers (front' ++ back') gates (first' ++ second')
  ran_halves workers front front' back back' gates first first' second second' w g long f b =
      subst (λ (l : List Worker). HaveRun count board l (front' ++ back') gates (first' ++ second')) (sym w)
      (subst (λ (l : List A). HaveRun count board (front ++ back) (front' ++ back') l (first' ++ second')) (sym g) (ran_both front front' back back' first first' second second' long f b))
