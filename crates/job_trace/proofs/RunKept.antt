-- What every run keeps: the start, the numbers of places and workers, and that the journal's flips stand on places.
use Rattle.std.proofs.Common.{◌≡◌, ℕ, ◌-◌, ◌<◌, ◌≤◌, Bool, true, false, ◌||◌, ◌⊎◌, inl, inr, List, [], ◌∷◌, ◌++◌, length, Result, Ok, Err, sym, ◌∙◌, ap, refl, subst, arith}
use Rattle.std.proofs.lemmas.List.{length-set}
use Rattle.std.proofs.lemmas.Bool.{true≢false}
use Rattle.complex_core.specs.Complexes.{ComplexView}
use Rattle.flip_rules.specs.Journals.{flat}
use Rattle.flip_rules.specs.declared.flip.Flip.{Flip}
use Rattle.star_laws.specs.Stars.{Rises, flips_touch}
use Rattle.core_laws.specs.declared.event.Event.{Event}
use Rattle.core_laws.specs.declared.event.Event.TheVariants as event
use Rattle.core_laws.specs.declared.event.Told.{Told}
use Rattle.core_laws.specs.declared.event.Told.TheVariants.{Claimed, AlreadyHeld, Flipped, RolledBack, Committed, Released}
use Rattle.core_laws.specs.declared.event.Refused.{Refused}
use Rattle.core_laws.specs.Cores.{Core, IsWorker, places_of, pending_of, with_owner, with_pending, opened}
use Rattle.core_laws.specs.Steps.{Step, next_entry, committed}
use Rattle.core_laws.specs.Serials.{Serial, OwnsLabel}
use Rattle.core_laws.specs.Runs.{IsEvent, Turn, IsRun}
use Rattle.core_laws.proofs.Replays.{flat_push, touch-append}
use Rattle.core_laws.proofs.Runs.{step_next, opened_serial}
use Rattle.job_trace.specs.Traced.{end_of}

-- ---- what a step adds

-- a label of a place
record IsLabel (c : Core) (p : ℕ) : Type 0 where
  low : 0 < p
  high : p ≤ places_of c

record Moves (c next : Core) : Type 0 where
  owners : length next.owners ≡ length c.owners
  workers : length next.pending ≡ length c.pending
  journal : (p : ℕ) → flips_touch p (flat next.journal) ≡ true → (flips_touch p (flat c.journal) ≡ true) ⊎ IsLabel c p

moved : (c next made : Core) → next ≡ made → Moves c made → Moves c next
moved c next made e m = let P : Core → Type 0 = λ d. Moves c d in subst P (sym e) m

stays : (c : Core) → Moves c c
stays c = record { owners = refl; workers = refl; journal = λ p t. inl t }

owner_moves : (c : Core) (place owner : ℕ) → Moves c (with_owner c place owner)
owner_moves c place owner = record { owners = length-set c.owners place owner; workers = refl; journal = λ p t. inl t }

pending_moves : (c : Core) (worker : ℕ) (flips : List Flip) → Moves c (with_pending c worker flips)
pending_moves c worker flips = record { owners = refl; workers = length-set c.pending (worker - 1) flips; journal = λ p t. inl t }

commit_moves : (c : Core) (worker : ℕ) → Serial c → IsWorker c worker → Moves c (committed c 0 worker)
commit_moves c worker s w = record {
  owners = length-set c.owners 0 0;
  workers = length-set c.pending (worker - 1) [];
  journal = λ p t. parts p (flips_touch p (flat c.journal)) refl (sym (ap (flips_touch p) (flat_push c.journal (next_entry c 0 worker)) ∙ touch-append p (flat c.journal) (pending_of c worker)) ∙ t);
}
  where
    parts : (p : ℕ) (b : Bool) → flips_touch p (flat c.journal) ≡ b → (flips_touch p (flat c.journal) || flips_touch p (pending_of c worker)) ≡ true → (flips_touch p (flat c.journal) ≡ true) ⊎ IsLabel c p
    parts p true e t = inl e
    parts p false e t =
        let o : OwnsLabel c worker p = s.owned worker p w (ap (λ b. b || flips_touch p (pending_of c worker)) (sym e) ∙ t) in
        inr (record { low = o.low; high = o.high })

row_moves : (c next : Core) (e : Event) (told : Told) → Serial c → Step c e (Ok told) next → Moves c next
row_moves c next (event.Claim worker place) Claimed s h = moved c next _ h.1.2 (owner_moves c place worker)
row_moves c next (event.Claim worker place) AlreadyHeld s h = moved c next c h.1.2 (stays c)
row_moves c next (event.Claim worker place) Flipped s h = absurd h.1
row_moves c next (event.Claim worker place) (RolledBack n) s h = absurd h.1
row_moves c next (event.Claim worker place) (Committed n) s h = absurd h.1
row_moves c next (event.Claim worker place) Released s h = absurd h.1
row_moves c next (event.Flip worker f) Flipped s h = moved c next _ h.1.2 (pending_moves c worker (pending_of c worker ++ f ∷ []))
row_moves c next (event.Flip worker f) Claimed s h = absurd h.1
row_moves c next (event.Flip worker f) AlreadyHeld s h = absurd h.1
row_moves c next (event.Flip worker f) (RolledBack n) s h = absurd h.1
row_moves c next (event.Flip worker f) (Committed n) s h = absurd h.1
row_moves c next (event.Flip worker f) Released s h = absurd h.1
row_moves c next (event.Rollback worker) (RolledBack n) s h = moved c next _ h.1.1 (pending_moves c worker [])
row_moves c next (event.Rollback worker) Claimed s h = absurd h.1
row_moves c next (event.Rollback worker) AlreadyHeld s h = absurd h.1
row_moves c next (event.Rollback worker) Flipped s h = absurd h.1
row_moves c next (event.Rollback worker) (Committed n) s h = absurd h.1
row_moves c next (event.Rollback worker) Released s h = absurd h.1
row_moves c next (event.Commit worker) (Committed n) s h = moved c next _ h.1.3 (commit_moves c worker s h.0)
row_moves c next (event.Commit worker) Claimed s h = absurd h.1
row_moves c next (event.Commit worker) AlreadyHeld s h = absurd h.1
row_moves c next (event.Commit worker) Flipped s h = absurd h.1
row_moves c next (event.Commit worker) (RolledBack n) s h = absurd h.1
row_moves c next (event.Commit worker) Released s h = absurd h.1
row_moves c next (event.Release worker place) Released s h = moved c next _ h.1.3 (owner_moves c place 0)
row_moves c next (event.Release worker place) Claimed s h = absurd h.1
row_moves c next (event.Release worker place) AlreadyHeld s h = absurd h.1
row_moves c next (event.Release worker place) Flipped s h = absurd h.1
row_moves c next (event.Release worker place) (RolledBack n) s h = absurd h.1
row_moves c next (event.Release worker place) (Committed n) s h = absurd h.1

step_moves : (c next : Core) (e : Event) (answer : Result Told Refused) → Serial c → Step c e answer next → Moves c next
step_moves c next e (Ok told) s h = row_moves c next e told s h
step_moves c next e (Err reason) s h = moved c next c h.1 (stays c)

-- ---- along a run

pub record Kept (first c : Core) : Type 0 where
  pub serial : Serial c
  pub start : c.start ≡ first.start
  pub owners : length c.owners ≡ length first.owners
  pub workers : length c.pending ≡ length first.pending
  pub journal : (p : ℕ) → flips_touch p (flat c.journal) ≡ true → (0 < p) × (p ≤ places_of first)

kept_step : (first c next : Core) (e : Event) (answer : Result Told Refused) → Rises first.start → Kept first c → IsEvent e → Step c e answer next → Kept first next
kept_step first c next e answer r k is_event step =
    let m : Moves c next = step_moves c next e answer k.serial step in
    let n : Serial next × (next.start ≡ c.start) = step_next c next e answer (let P : ComplexView → Type 0 = λ x. Rises x in subst P (sym k.start) r) k.serial is_event step in
    record {
      serial = n.0;
      start = n.1 ∙ k.start;
      owners = m.owners ∙ k.owners;
      workers = m.workers ∙ k.workers;
      journal = λ p t. elim (m.journal p t) [
        | inl before ↦ k.journal p before
        | inr label ↦ (label.low, omega (arith, label.high, k.owners))
      ];
    }

kept_run : (first c : Core) (ts : List Turn) → Rises first.start → Kept first c → IsRun c ts → Kept first (end_of c ts)
kept_run first c [] r k run = k
kept_run first c (t ∷ ts) r k run = kept_run first t.next ts r (kept_step first c t.next t.event t.answer r k run.0 run.1) run.2

pub opened_kept : (start : ComplexView) (places workers : ℕ) (ts : List Turn) → Rises start → IsRun (opened start places workers) ts → Kept (opened start places workers) (end_of (opened start places workers) ts)
opened_kept start places workers ts r run = kept_run (opened start places workers) (opened start places workers) ts r (record {
  serial = opened_serial start places workers;
  start = refl;
  owners = refl;
  workers = refl;
  journal = λ p t. absurd (true≢false (sym t));
}) run
