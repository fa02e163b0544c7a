-- Whom the busy answers of a worker name.
use Rattle.std.proofs.Common.{◌≡◌, ⊎_elim, inl, inr, ℕ, ◌+◌, ◌<◌, Bool, true, false, List, [], ◌∷◌, length, sym, refl, ap, ◌∙◌, subst, arith}
use mathlib.Core.Option.{some, some-ne-none}
use Rattle.std.specs.List.{AllByRecursion}
use lib.ListN.{get_elem?}
use Rattle.flip_rules.specs.Entries.{JournalEntry}
use Rattle.board_rule.specs.Rule.{Names, Blames, HasWon}
use Rattle.board_rule.specs.Tries.{Try}
use Rattle.board_rule.specs.declared.view.MainView.{MainView}
use Rattle.board_rule.proofs.Seats.{at_end}
use Rattle.round_rules.specs.Own.{OwnTry}
use Rattle.round_rules.specs.Accounts.{OwnRun, OwnAll}
use Rattle.round_rules.specs.Outcomes.{IsOther}
use Rattle.round_rules.specs.Tasks.{Scene, Task, turns_of}
use Rattle.round_rules.specs.declared.tried.Tried.{Tried}
use Rattle.round_rules.specs.declared.tried.Tried.TheVariants.{Busy, Quit}
use Rattle.round_rules.proofs.OneTry.{same_place, same_owner, busy_own, busy_of}

-- another worker, who won the place in some try
pub record Blamed (s : Scene) (c : MainView) (w q o : ℕ) : Type 0 where
  pub other : IsOther s w o
  pub has : HasWon [] c o q

won_moved : (c : MainView) (o p e q : ℕ) → o ≡ p → e ≡ q → HasWon [] c o e → HasWon [] c p q
won_moved c o p e q i j h = subst (λ (x : ℕ × ℕ). HasWon [] c x.0 x.1) (λ k. (i k, j k)) h

has_of : (task : Task) (round w : ℕ) (c : MainView) (t : Try) (was now : List JournalEntry) (a : Tried) (b : Bool) → t.won ≡ b → Blames [] c t → OwnTry task round w t was now a → (q o : ℕ) → a ≡ Busy q o → 0 < q → HasWon [] c o q
has_of task round w c t was now a true won blames own q o is low =
    let r = own.won won in
    let b = busy_own task round w t was now (turns_of task r.home.star) a q o is r.row in
    won_moved c t.owner o t.last q b.0.owner b.0.last (blames.last (let e : t.last ≡ q = b.0.last in omega (arith, e, low)))
has_of task round w c t was now a false lost blames own q o is low =
    let e = sym (own.lost lost).0 ∙ is in
    won_moved c t.found o t.place q (same_owner t.place t.found q o e) (same_place t.place t.found q o e) (blames.lost lost)

blamed_run : (s : Scene) (entries : List JournalEntry) (w seats : ℕ) (tasks : ℕ → Task) (c : MainView) (ts : List Try) (answers : List Tried) (own : List JournalEntry) → seats ≡ s.plan.workers + 1 → AllByRecursion (Names seats w entries) ts → AllByRecursion (Blames [] c) ts → OwnRun tasks s.round w ts answers own
    → (k q o : ℕ) → get_elem? answers k ≡ some (Busy q o) → 0 < q → Blamed s c w q o
blamed_run s entries w seats tasks c [] answers own long names blames run k q o at low = absurd (some-ne-none (Busy q o) (sym at ∙ ap (λ (l : List Tried). get_elem? l k) run.0))
blamed_run s entries w seats tasks c (t ∷ ts) answers own long names blames run k q o at low =
    ⊎_elim (λ (h : get_elem? run.earlier k ≡ some (Busy q o)). blamed_run s entries w seats tasks c ts run.earlier run.was long names.1 blames.1 run.before k q o h low)
    (λ (h : (k ≡ length run.earlier) × (run.last ≡ Busy q o)). record {
      other = busy_of s entries w seats (tasks (length ts)) t run.was own run.last t.won refl long names.0 run.one q o h.1;
      has = has_of (tasks (length ts)) s.round w c t run.was own run.last t.won refl blames.0 run.one q o h.1 low;
    })
    (at_end run.earlier run.last (Busy q o) k (ap (λ (l : List Tried). get_elem? l k) (sym run.all) ∙ at))

-- a place from 1
pub blamed : (s : Scene) (entries : List JournalEntry) (w seats : ℕ) (tasks : ℕ → Task) (c : MainView) (tries : List Try) (answers : List Tried) (own : List JournalEntry) → seats ≡ s.plan.workers + 1 → AllByRecursion (Names seats w entries) tries → AllByRecursion (Blames [] c) tries → OwnAll tasks s.round w tries answers own
    → (k q o : ℕ) → get_elem? answers k ≡ some (Busy q o) → 0 < q → Blamed s c w q o
blamed s entries w seats tasks c tries answers own long names blames (inl run) k q o at low = blamed_run s entries w seats tasks c tries answers own long names blames run k q o at low
blamed s entries w seats tasks c tries answers own long names blames (inr stop) k q o at low =
    ⊎_elim (λ (h : get_elem? stop.earlier k ≡ some (Busy q o)). blamed_run s entries w seats tasks c tries stop.earlier own long names blames stop.before k q o h low)
    (λ (h : (k ≡ length stop.earlier) × (Quit ≡ Busy q o)). absurd (no_busy h.1))
    (at_end stop.earlier Quit (Busy q o) k (ap (λ (l : List Tried). get_elem? l k) (sym stop.all) ∙ at))
  where
    no_busy : Quit ≡ Busy q o → ⊥
    no_busy h = cc
