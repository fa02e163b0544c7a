-- When a try must commit.
use Rattle.std.proofs.Common.{◌≡◌, ◌≢◌, ◌⊎◌, inl, inr, ℕ, zero, suc, ◌≤ℤ◌, List, [], refl, subst, arith}
use Rattle.std.proofs.lemmas.Int.{ints}
use Rattle.flip_rules.specs.declared.flip.Flip.{Flip}
use Rattle.flip_rules.proofs.Journals.{star_is_one}
use Rattle.anneal_plan.specs.Proposals.{allowed_of}
use Rattle.vertex_claims.specs.declared.mark.Mark.{Mark}
use Rattle.round_rules.specs.Laws.{TryCommits}
use Rattle.board_rule.specs.Tries.{Unrefused}
use Rattle.round_rules.specs.Rows.{BlockedRow, Row}
use Rattle.round_rules.specs.Outcomes.{LegalAfter, BlockedAfter, EntersAfter, RowAfter, WonRow, Judges, star_at}
use Rattle.round_rules.specs.Tasks.{Task, turns_of, changes}
use Rattle.round_rules.specs.declared.tried.Tried.{Tried}
use Rattle.round_rules.specs.declared.tried.Tried.TheVariants.{Committed, Busy, Nothing, Blocked, Declined, Quit, NoMemory}

by_row : (Legal : List Flip → Type 0) (IsBlocked : List Flip → Flip → Type 0) (IsEntered : ℕ → List Flip → Type 0) (task : Task) (m : Mark) (flips : List Flip) (a : Tried) → Unrefused m.vertices m.journal → flips ≢ [] → changes task.dim flips ≤ℤ allowed_of task.dim task.phase → ((f : Flip) → BlockedRow IsBlocked m f flips → ⊥) → a ≢ Quit
    → Row Legal IsBlocked IsEntered task m flips a → ((n : ℕ) × (a ≡ Committed n)) ⊎ (a ≡ NoMemory)
by_row L B E task m flips (Committed n) free some few unblocked stays r = inl (n, refl)
by_row L B E task m flips (Busy zero o) free some few unblocked stays r = let j = (r.journal refl).journal in let f = free.1 in absurd (omega (arith, j, f))
by_row L B E task m flips (Busy (suc q) o) free some few unblocked stays r = let v = (r.vertex (omega arith)).vertices in let f = free.0 in absurd (omega (arith, v, f))
by_row L B E task m flips Nothing free some few unblocked stays r = absurd (some r.0)
by_row L B E task m flips (Blocked f) free some few unblocked stays r = absurd (unblocked f r)
by_row L B E task m flips (Declined c) free some few unblocked stays r = let above = r.above in let sum = r.sum in absurd (omega (arith, ints, above, sum, few))
by_row L B E task m flips Quit free some few unblocked stays r = absurd (stays refl)
by_row L B E task m flips NoMemory free some few unblocked stays r = inr refl

pub commits : TryCommits
commits s entries w task earlier version m a rows o won at free some few unblocked stays =
    let r : WonRow s entries w task earlier version m a = subst (Judges s entries w task earlier m a) won o.judged in
    let same : r.rows ≡ rows = star_is_one s.start entries m.place version r.rows rows r.at at in
    by_row (LegalAfter s entries w earlier m.place version) (BlockedAfter s entries w earlier m.place version) (EntersAfter s entries w earlier m.place version) task m (turns_of task (star_at s m.place rows)) a free some few unblocked stays
    (subst (λ (l : List (List ℕ)). RowAfter s entries w task earlier version m (turns_of task (star_at s m.place l)) a) same r.row)
