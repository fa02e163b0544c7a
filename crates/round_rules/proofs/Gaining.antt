-- How many entries a round has, and how many facets each adds.
use Rattle.std.proofs.Common.{◌≡◌, ℕ, ◌+◌, ◌≤◌, Bool, true, false, nat_eq, ◌&&◌, ℤ, pos, ◌≤ℤ◌, List, [], ◌∷◌, length, inl, inr, sym, refl, ap, ◌∙◌, subst, arith, eq-eqb}
use Rattle.std.specs.List.{AllByRecursion}
use Rattle.std.proofs.Math.Nat.{mod-le}
use Rattle.std.proofs.lemmas.Int.{ints}
use Rattle.complex_core.proofs.Sorting.{each_append}
use Rattle.flip_rules.specs.Entries.{JournalEntry}
use Rattle.flip_rules.specs.declared.flip.Flip.{Flip}
use Rattle.anneal_plan.specs.Proposals.{allowed_of}
use Rattle.anneal_plan.specs.declared.plan.Phase.{Phase}
use Rattle.anneal_plan.specs.declared.plan.Phase.TheVariants.{Heat, Relax, Reduce}
use Rattle.board_rule.specs.Rule.{IsEntry}
use Rattle.board_rule.specs.Tries.{Try}
use Rattle.round_rules.specs.Own.{OwnRow, OwnTry}
use Rattle.round_rules.specs.Accounts.{OwnRun, OwnAll}
use Rattle.round_rules.specs.Outcomes.{numbers_in}
use Rattle.round_rules.specs.Tasks.{Task, turns_of, changes}
use Rattle.round_rules.specs.declared.tried.Tried.{Tried}
use Rattle.round_rules.specs.declared.tried.Tried.TheVariants.{Committed, Busy, Nothing, Blocked, Declined, Quit, NoMemory}
use Rattle.round_rules.proofs.Parts.{Homed}
use Rattle.board_rule.proofs.TryingEntries.{is_of}

-- no phase allows more than the dimension
allowed_most : (d : ℕ) (phase : Phase) → allowed_of d phase ≤ℤ pos d
allowed_most d Heat = omega (arith, ints)
allowed_most d Relax = let m = mod-le d 2 in omega (arith, ints, m)
allowed_most d Reduce = omega (arith, ints)

through : (x y z : ℤ) → x ≤ℤ y → y ≤ℤ z → x ≤ℤ z
through x y z h g = omega (arith, ints, h, g)

-- an entry that adds at most as many facets as the dimension
abbrev pub Gains : ℕ → JournalEntry → Type 0
Gains d e = changes d e.flips ≤ℤ pos d

gains_row : (task : Task) (d round w : ℕ) (t : Try) (was now : List JournalEntry) (flips : List Flip) (a : Tried) → task.dim ≡ d → AllByRecursion (Gains d) was → OwnRow task round w t was now flips a → AllByRecursion (Gains d) now
gains_row task d round w t was now flips (Committed n) is h o =
    let most : changes task.dim flips ≤ℤ pos task.dim = through (changes task.dim flips) (allowed_of task.dim task.phase) (pos task.dim) o.0.allowed (allowed_most task.dim task.phase) in
    subst (AllByRecursion (Gains d)) (sym o.0.entered.entry) (each_append (Gains d) was (record { round = round; worker = w; seq = n; flips = flips } ∷ []) h (subst (λ (x : ℕ). changes x flips ≤ℤ pos x) is most, tt))
gains_row task d round w t was now flips (Busy q p) is h o = subst (AllByRecursion (Gains d)) (sym o.2) h
gains_row task d round w t was now flips Nothing is h o = subst (AllByRecursion (Gains d)) (sym o.2) h
gains_row task d round w t was now flips (Blocked f) is h o = subst (AllByRecursion (Gains d)) (sym o.2) h
gains_row task d round w t was now flips (Declined c) is h o = subst (AllByRecursion (Gains d)) (sym o.2) h
gains_row task d round w t was now flips Quit is h o = subst (AllByRecursion (Gains d)) (sym o.2) h
gains_row task d round w t was now flips NoMemory is h o = subst (AllByRecursion (Gains d)) (sym o.2) h

gains_try : (task : Task) (d round w : ℕ) (t : Try) (was now : List JournalEntry) (a : Tried) (b : Bool) → t.won ≡ b → task.dim ≡ d → AllByRecursion (Gains d) was → OwnTry task round w t was now a → AllByRecursion (Gains d) now
gains_try task d round w t was now a true won is h o = let r = o.won won in gains_row task d round w t was now (turns_of task r.home.star) a is h r.row
gains_try task d round w t was now a false lost is h o = subst (AllByRecursion (Gains d)) (sym (o.lost lost).2) h

gains_run : (tasks : ℕ → Task) (d round w : ℕ) (ts : List Try) (answers : List Tried) (own : List JournalEntry) → ((n : ℕ) → (tasks n).dim ≡ d) → OwnRun tasks round w ts answers own → AllByRecursion (Gains d) own
gains_run tasks d round w [] answers own is run = subst (AllByRecursion (Gains d)) (sym run.1) tt
gains_run tasks d round w (t ∷ ts) answers own is run = gains_try (tasks (length ts)) d round w t run.was own run.last t.won refl (is (length ts)) (gains_run tasks d round w ts run.earlier run.was is run.before) run.one

-- each entry that a worker tells of adds at most as many facets as the dimension of its tasks
pub gains_all : (tasks : ℕ → Task) (d round w : ℕ) (ts : List Try) (answers : List Tried) (own : List JournalEntry) → ((n : ℕ) → (tasks n).dim ≡ d) → OwnAll tasks round w ts answers own → AllByRecursion (Gains d) own
gains_all tasks d round w ts answers own is (inl run) = gains_run tasks d round w ts answers own is run
gains_all tasks d round w ts answers own is (inr stop) = gains_run tasks d round w ts stop.earlier own is stop.before

-- ---- how many

-- there are no more numbers than answers
pub few_numbers : (answers : List Tried) → length (numbers_in answers) ≤ length answers
few_numbers [] = omega arith
few_numbers (Committed n ∷ rest) = let i = few_numbers rest in omega (arith, i)
few_numbers (Busy q o ∷ rest) = let i = few_numbers rest in omega (arith, i)
few_numbers (Nothing ∷ rest) = let i = few_numbers rest in omega (arith, i)
few_numbers (Blocked f ∷ rest) = let i = few_numbers rest in omega (arith, i)
few_numbers (Declined c ∷ rest) = let i = few_numbers rest in omega (arith, i)
few_numbers (Quit ∷ rest) = let i = few_numbers rest in omega (arith, i)
few_numbers (NoMemory ∷ rest) = let i = few_numbers rest in omega (arith, i)

-- each entry is one of its worker
pub homed : (round places n : ℕ) (es : List JournalEntry) → AllByRecursion (IsEntry round places (n + 1)) es → AllByRecursion (Homed (is_of round) (λ e. e.worker) n) es
homed round places n [] h = tt
homed round places n (e ∷ es) h =
    let high = h.0.high in
    (record { low = h.0.low; high = omega (arith, high); here = ap (λ (b : Bool). b && nat_eq e.worker e.worker) (eq-eqb e.round round h.0.round_is) ∙ eq-eqb e.worker e.worker refl }, homed round places n es h.1)
