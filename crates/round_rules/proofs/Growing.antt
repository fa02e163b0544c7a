-- Answers with one more at the end.
use Rattle.std.proofs.Common.{◌≡◌, ℕ, suc, ◌+◌, List, [], ◌∷◌, ◌++◌, length, refl, ap, subst, arith}
use Rattle.flip_rules.specs.Entries.{JournalEntry}
use Rattle.vertex_claims.specs.declared.mark.Mark.{Mark}
use Rattle.round_rules.specs.Outcomes.{Outcome, Outcomes, entries_in, numbers_in}
use Rattle.round_rules.specs.Tasks.{Scene, Task}
use Rattle.round_rules.specs.declared.tried.Tried.{Tried}
use Rattle.round_rules.specs.declared.tried.Tried.TheVariants.{Committed, Busy, Nothing, Blocked, Declined, Quit, NoMemory}

-- how many of the answers are commits
abbrev pub commits : List Tried → ℕ
commits [] = 0
commits (a ∷ rest) = entries_in a + commits rest

pub commits_more : (answers : List Tried) (a : Tried) → commits (answers ++ a ∷ []) ≡ commits answers + entries_in a
commits_more [] a = omega arith
commits_more (r ∷ rest) a = let i = commits_more rest a in omega (arith, i)

pub numbers_more : (answers : List Tried) (a : Tried) → numbers_in (answers ++ a ∷ []) ≡ numbers_in answers ++ numbers_in (a ∷ [])
numbers_more [] a = refl
numbers_more (Committed n ∷ rest) a = ap (λ (l : List ℕ). n ∷ l) (numbers_more rest a)
numbers_more (Busy q o ∷ rest) a = numbers_more rest a
numbers_more (Nothing ∷ rest) a = numbers_more rest a
numbers_more (Blocked f ∷ rest) a = numbers_more rest a
numbers_more (Declined c ∷ rest) a = numbers_more rest a
numbers_more (Quit ∷ rest) a = numbers_more rest a
numbers_more (NoMemory ∷ rest) a = numbers_more rest a

pub outcomes_more : (s : Scene) (entries : List JournalEntry) (w : ℕ) (tasks : ℕ → Task) (t earlier : ℕ) (ms : List Mark) (answers : List Tried) (m : Mark) (a : Tried) → length ms ≡ length answers → Outcomes s entries w tasks t earlier ms answers
    → Outcome s entries w (tasks (t + length ms)) (earlier + commits answers) m a → Outcomes s entries w tasks t earlier (ms ++ m ∷ []) (answers ++ a ∷ [])
outcomes_more s entries w tasks t earlier [] [] m a long os o =
    let t_is : t + 0 ≡ t = omega arith in
    let earlier_is : earlier + 0 ≡ earlier = omega arith in
    (subst (λ (x : ℕ × ℕ). Outcome s entries w (tasks x.0) x.1 m a) (λ i. (t_is i, earlier_is i)) o, tt)
outcomes_more s entries w tasks t earlier [] (r ∷ rest) m a long os o = absurd (omega (arith, long))
outcomes_more s entries w tasks t earlier (x ∷ ms) [] m a long os o = absurd (omega (arith, long))
outcomes_more s entries w tasks t earlier (x ∷ ms) (r ∷ rest) m a long os o =
    let t_is : t + suc (length ms) ≡ suc t + length ms = omega arith in
    let earlier_is : earlier + (entries_in r + commits rest) ≡ earlier + entries_in r + commits rest = omega arith in
    (os.0, outcomes_more s entries w tasks (suc t) (earlier + entries_in r) ms rest m a (omega (arith, long)) os.1 (subst (λ (x : ℕ × ℕ). Outcome s entries w (tasks x.0) x.1 m a) (λ i. (t_is i, earlier_is i)) o))

-- a quit without a mark
pub outcomes_quit : (s : Scene) (entries : List JournalEntry) (w : ℕ) (tasks : ℕ → Task) (t earlier : ℕ) (ms : List Mark) (answers : List Tried) → length ms ≡ length answers → Outcomes s entries w tasks t earlier ms answers → Outcomes s entries w tasks t earlier ms (answers ++ Quit ∷ [])
outcomes_quit s entries w tasks t earlier [] [] long os = (refl, refl)
outcomes_quit s entries w tasks t earlier [] (r ∷ rest) long os = absurd (omega (arith, long))
outcomes_quit s entries w tasks t earlier (x ∷ ms) [] long os = absurd (omega (arith, long))
outcomes_quit s entries w tasks t earlier (x ∷ ms) (r ∷ rest) long os = (os.0, outcomes_quit s entries w tasks (suc t) (earlier + entries_in r) ms rest (omega (arith, long)) os.1)
