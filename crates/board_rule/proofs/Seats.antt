-- Who is at a seat after a change of the seats.
use Rattle.std.proofs.Common.{◌≡◌, ◌≢◌, ◌⊎◌, ℕ, zero, suc, ◌<◌, List, [], ◌∷◌, ◌++◌, length, set, sym, refl, ap, ◌∙◌, inl, inr, ⊎_elim, arith}
use mathlib.Core.Option.{some, some-injective, some-ne-none}
use lib.ListN.{get_elem?}
use Rattle.atomic_table.proofs.Lists.{at_set}
use Rattle.board_rule.specs.declared.view.PassView.{PassView}
use Rattle.board_rule.specs.declared.view.MainView.{MainView}
use Rattle.board_rule.specs.declared.view.View.{View}
use Rattle.board_rule.specs.declared.view.View.TheVariants.{Main, Pass, Spent}

pub same_pass : (u v : PassView) → Pass u ≡ Pass v → u ≡ v
same_pass u v e = cc

pub same_main : (c d : MainView) → Main c ≡ Main d → c ≡ d
same_main c d e = cc

pub pass_main : {A : Type 0} (v : PassView) (c : MainView) → Pass v ≡ Main c → A
pass_main v c e = absurd (cc)

pub pass_spent : {A : Type 0} (v : PassView) → Pass v ≡ Spent → A
pass_spent v e = absurd (cc)

pub main_spent : {A : Type 0} (c : MainView) → Main c ≡ Spent → A
main_spent c e = absurd (cc)

-- one view at one seat
pub one_view : (views : List View) (i j : ℕ) (x y : View) → i ≡ j → get_elem? views i ≡ some x → get_elem? views j ≡ some y → x ≡ y
one_view views i j x y e at there = some-injective x y (sym at ∙ (ap (λ (k : ℕ). get_elem? views k) e ∙ there))

pub one_pass : (views : List View) (i j : ℕ) (u v : PassView) → i ≡ j → get_elem? views i ≡ some (Pass u) → get_elem? views j ≡ some (Pass v) → u ≡ v
one_pass views i j u v e at there = same_pass u v (one_view views i j (Pass u) (Pass v) e at there)

-- the seat is there
pub within : {A : Type 0} (l : List A) (i : ℕ) (x : A) → get_elem? l i ≡ some x → i < length l
within [] i x h = absurd (some-ne-none x (sym h))
within (y ∷ ys) zero x h = omega arith
within (y ∷ ys) (suc i) x h = let n = within ys i x h in omega arith

pub there : {A : Type 0} (l : List A) (i : ℕ) → i < length l → (x : A) × (get_elem? l i ≡ some x)
there [] i h = absurd (omega arith)
there (x ∷ xs) zero h = (x, refl)
there (x ∷ xs) (suc i) h = there xs i (omega arith)

-- who is at a seat after the seat id changed
pub seated : (views : List View) (id w : ℕ) (x : View) (u : PassView) → get_elem? (set views id x) w ≡ some (Pass u) → ((w ≡ id) × (x ≡ Pass u)) ⊎ ((w ≢ id) × (get_elem? views w ≡ some (Pass u)))
seated views id w x u h = at_set views id w x (Pass u) h

-- a list with one more at its end
pub at_end : {A : Type 0} (l : List A) (a b : A) (k : ℕ) → get_elem? (l ++ a ∷ []) k ≡ some b → (get_elem? l k ≡ some b) ⊎ ((k ≡ length l) × (a ≡ b))
at_end [] a b zero h = inr (refl, some-injective a b h)
at_end [] a b (suc k) h = absurd (some-ne-none b (sym h))
at_end (x ∷ xs) a b zero h = inl h
at_end (x ∷ xs) a b (suc k) h = ⊎_elim (λ t. inl t) (λ t. inr (ap suc t.0, t.1)) (at_end xs a b k h)
