-- The outcome of one try.
use Rattle.std.proofs.Common.{◌≡◌, ℕ, ◌+◌, ◌<◌, Bool, true, false, cond, List, ◌++◌, length, sym, refl, ◌∙◌, subst, arith}
use mathlib.Core.Option.{some}
use Rattle.flip_rules.specs.Entries.{JournalEntry}
use Rattle.flip_rules.specs.Journals.{mine}
use Rattle.flip_rules.specs.declared.flip.Flip.{Flip}
use Rattle.star_laws.specs.Stars.{Rises}
use Rattle.board_rule.specs.Plays.{IsRefused}
use Rattle.board_rule.specs.Rule.{Names, IsOther as IsOtherSeat}
use Rattle.board_rule.specs.Tries.{Try, last_with}
use Rattle.vertex_claims.specs.Marks.{mark_of}
use Rattle.vertex_claims.specs.declared.mark.Found.TheVariants.{Won, Lost}
use Rattle.round_rules.specs.Rows.{BusyRow}
use Rattle.round_rules.specs.Own.{ReplaysOn, OwnRow, OwnTry}
use Rattle.round_rules.specs.Outcomes.{Judges, IsOther, Outcome}
use Rattle.round_rules.specs.Tasks.{Scene, Task, turns_of}
use Rattle.round_rules.specs.declared.tried.Tried.{Tried}
use Rattle.round_rules.specs.declared.tried.Tried.TheVariants.{Busy}
use Rattle.round_rules.proofs.Judging.{Fitting, NotedIn, AtHome, row_of, won_row}

-- ---- whom a busy answer names

pub same_place : (q o p e : ℕ) → Busy q o ≡ Busy p e → q ≡ p
same_place q o p e h = cc

pub same_owner : (q o p e : ℕ) → Busy q o ≡ Busy p e → o ≡ e
same_owner q o p e h = cc

other_of : (s : Scene) (w o e seats : ℕ) → seats ≡ s.plan.workers + 1 → o ≡ e → IsOtherSeat seats w o → IsOther s w e
other_of s w o e seats long is h = let P : ℕ → Type 0 = λ n. IsOther s w n in subst P is record { low = h.0; high = let b = h.1 in omega (arith, b, long); other = h.2 }

pub busy_own : (task : Task) (round w : ℕ) (t : Try) (was now : List JournalEntry) (flips : List Flip) (a : Tried) (q o : ℕ) → a ≡ Busy q o → OwnRow task round w t was now flips a → BusyRow (ReplaysOn task.dim t.note) task (mark_of t) q o flips × IsRefused w o
busy_own task round w t was now flips a q o is row = let r : OwnRow task round w t was now flips (Busy q o) = subst (OwnRow task round w t was now flips) is row in (r.0, r.1)

not_zero : (w o : ℕ) → IsRefused w o → 0 < o
not_zero w o h = let n = h.0 in omega (arith, n)

pub busy_of : (s : Scene) (entries : List JournalEntry) (w seats : ℕ) (task : Task) (t : Try) (was now : List JournalEntry) (a : Tried) (b : Bool) → t.won ≡ b → seats ≡ s.plan.workers + 1 → Names seats w entries t → OwnTry task s.round w t was now a → (q o : ℕ) → a ≡ Busy q o → IsOther s w o
busy_of s entries w seats task t was now a true won long names own q o is =
    let r = own.won won in
    let b = busy_own task s.round w t was now (turns_of task r.home.star) a q o is r.row in
    other_of s w t.owner o seats long b.0.owner (names.owner (let e : t.owner ≡ o = b.0.owner in let n = not_zero w o b.1 in omega (arith, e, n)))
busy_of s entries w seats task t was now a false lost long names own q o is =
    let l = own.lost lost in
    other_of s w t.found o seats long (same_owner t.place t.found q o (sym l.0 ∙ is)) (names.lost lost)

-- ---- the outcome

judges_of : (s : Scene) (entries : List JournalEntry) (w : ℕ) (task : Task) (earlier : ℕ) (t : Try) (a : Tried) (b : Bool) → t.won ≡ b → (t.won ≡ false → Judges s entries w task earlier (mark_of t) a (Lost t.found)) → (t.won ≡ true → Judges s entries w task earlier (mark_of t) a (Won t.found))
    → Judges s entries w task earlier (mark_of t) a (mark_of t).found
judges_of s entries w task earlier t a true is lost won = subst (λ (b : Bool). Judges s entries w task earlier (mark_of t) a (cond b (Won t.found) (Lost t.found))) (sym is) (won is)
judges_of s entries w task earlier t a false is lost won = subst (λ (b : Bool). Judges s entries w task earlier (mark_of t) a (cond b (Won t.found) (Lost t.found))) (sym is) (lost is)

-- of a try with so many entries before it, and more behind it
pub outcome_of : (s : Scene) (entries : List JournalEntry) (w seats : ℕ) (task : Task) (tries : List Try) (t : Try) (was now rest : List JournalEntry) (a : Tried) → Rises s.start → task.dim ≡ s.start.dim → seats ≡ s.plan.workers + 1 → NotedIn s entries w tries → Names seats w entries t
    → (t.won ≡ true → Fitting s entries w t) → mine entries s.round w ≡ now ++ rest → (t.won ≡ true → length was < length now → last_with (length was) tries ≡ some t) → OwnTry task s.round w t was now a → Outcome s entries w task t.count (mark_of t) a
outcome_of s entries w seats task tries t was now rest a rises dim long noted names fit own latest o = record {
  place = o.place;
  judged = judges_of s entries w task t.count t a t.won refl (λ is. (o.lost is).0)
      (λ is. let r = o.won is in
      let h : AtHome t r.home = record { first = r.first; version = r.version } in
      won_row s entries w task t r.home a rises (fit is) h (row_of s entries w task tries t r.home was now rest (turns_of task r.home.star) a dim noted (fit is) own (latest is) h r.row));
  busy = busy_of s entries w seats task t was now a t.won refl long names o;
}
