-- Every run of events keeps the core serial.
use Rattle.std.proofs.Common.{◌≡◌, ℕ, ◌-◌, List, [], ◌∷◌, Result, Ok, Err, IsSome, sym, ◌∙◌, ap, refl, subst, arith}
use Rattle.std.proofs.lemmas.List.{get_or-replicate, length-replicate}
use Rattle.flip_rules.specs.Flips.{replay}
use Rattle.std.specs.List.{AllByRecursion}
use Rattle.std.proofs.lemmas.Bool.{true≢false}
use Rattle.complex_core.specs.Labels.{IsFace}
use Rattle.complex_core.specs.Complexes.{ComplexView}
use Rattle.flip_rules.specs.declared.flip.Flip.{Flip}
use Rattle.core_laws.specs.declared.event.Event.{Event}
use Rattle.core_laws.specs.declared.event.Event.TheVariants as event
use Rattle.core_laws.specs.declared.event.Told.{Told}
use Rattle.core_laws.specs.declared.event.Told.TheVariants.{Claimed, AlreadyHeld, Flipped, RolledBack, Committed, Released}
use Rattle.core_laws.specs.declared.event.Refused.{Refused}
use Rattle.star_laws.specs.Stars.{Rises, flips_touch}
use Rattle.core_laws.specs.Cores.{Core, IsWorker, pending_of, opened}
use Rattle.core_laws.specs.Steps.{Step, ClaimTold, FlipTold, RollbackTold, CommitTold, ReleaseTold}
use Rattle.core_laws.specs.Serials.{Serial}
use Rattle.core_laws.specs.Runs.{IsEvent, Turn, IsRun, RunsAreSerial}
use Rattle.core_laws.proofs.Rows.{claim_keeps, release_keeps, rollback_keeps, flip_keeps, commit_keeps}

abbrev Next : Core → Core → Type 0
Next c next = Serial next × (next.start ≡ c.start)

along : (c next made : Core) → next ≡ made → Serial made → made.start ≡ c.start → Next c next
along c next made e s start = (let P : Core → Type 0 = λ d. Serial d in subst P (sym e) s, ap (λ (d : Core). d.start) e ∙ start)

pub claim_next : (c next : Core) (worker place : ℕ) (told : Told) → Serial c → ClaimTold c worker place told next → Next c next
claim_next c next worker place Claimed s h = along c next _ h.2 (claim_keeps c worker place s h.1) refl
claim_next c next worker place AlreadyHeld s h = along c next c h.2 s refl
claim_next c next worker place Flipped s h = absurd h
claim_next c next worker place (RolledBack n) s h = absurd h
claim_next c next worker place (Committed n) s h = absurd h
claim_next c next worker place Released s h = absurd h

pub flip_next : (c next : Core) (worker : ℕ) (f : Flip) (told : Told) → Serial c → IsWorker c worker → IsFace f.a → IsFace f.b → FlipTold c worker f told next → Next c next
flip_next c next worker f Flipped s v fa fb h = along c next _ h.2 (flip_keeps c worker f s v fa fb h.0.fits.places h.0.owned h.1) refl
flip_next c next worker f Claimed s v fa fb h = absurd h
flip_next c next worker f AlreadyHeld s v fa fb h = absurd h
flip_next c next worker f (RolledBack n) s v fa fb h = absurd h
flip_next c next worker f (Committed n) s v fa fb h = absurd h
flip_next c next worker f Released s v fa fb h = absurd h

pub rollback_next : (c next : Core) (worker : ℕ) (told : Told) → Serial c → IsWorker c worker → RollbackTold c worker told next → Next c next
rollback_next c next worker (RolledBack n) s v h = along c next _ h.1 (rollback_keeps c worker s v) refl
rollback_next c next worker Claimed s v h = absurd h
rollback_next c next worker AlreadyHeld s v h = absurd h
rollback_next c next worker Flipped s v h = absurd h
rollback_next c next worker (Committed n) s v h = absurd h
rollback_next c next worker Released s v h = absurd h

pub commit_next : (c next : Core) (worker : ℕ) (told : Told) → Rises c.start → Serial c → IsWorker c worker → CommitTold c worker told next → Next c next
commit_next c next worker (Committed n) r s v h = along c next _ h.3 (commit_keeps c 0 worker r s v) refl
commit_next c next worker Claimed r s v h = absurd h
commit_next c next worker AlreadyHeld r s v h = absurd h
commit_next c next worker Flipped r s v h = absurd h
commit_next c next worker (RolledBack n) r s v h = absurd h
commit_next c next worker Released r s v h = absurd h

pub release_next : (c next : Core) (worker place : ℕ) (told : Told) → Serial c → ReleaseTold c worker place told next → Next c next
release_next c next worker place Released s h = along c next _ h.3 (release_keeps c worker place s h.1 h.2) refl
release_next c next worker place Claimed s h = absurd h
release_next c next worker place AlreadyHeld s h = absurd h
release_next c next worker place Flipped s h = absurd h
release_next c next worker place (RolledBack n) s h = absurd h
release_next c next worker place (Committed n) s h = absurd h

-- a step keeps a core serial, and its start
pub step_next : (c next : Core) (e : Event) (answer : Result Told Refused) → Rises c.start → Serial c → IsEvent e → Step c e answer next → Next c next
step_next c next e (Err reason) r s f h = along c next c h.1 s refl
step_next c next (event.Claim worker place) (Ok told) r s f h = claim_next c next worker place told s h.1
step_next c next (event.Flip worker flip) (Ok told) r s f h = flip_next c next worker flip told s h.0 f.0 f.1 h.1
step_next c next (event.Rollback worker) (Ok told) r s f h = rollback_next c next worker told s h.0 h.1
step_next c next (event.Commit worker) (Ok told) r s f h = commit_next c next worker told r s h.0 h.1
step_next c next (event.Release worker place) (Ok told) r s f h = release_next c next worker place told s h.1

runs_from : (c : Core) (turns : List Turn) → Rises c.start → Serial c → IsRun c turns → AllByRecursion (λ t. Serial t.next) turns
runs_from c [] r s h = tt
runs_from c (t ∷ ts) r s h =
    let n : Next c t.next = step_next c t.next t.event t.answer r s h.0 h.1 in
    (n.0, runs_from t.next ts (let P : ComplexView → Type 0 = λ k. Rises k in subst P (sym n.1) r) n.0 h.2)

pub opened_serial : (start : ComplexView) (places workers : ℕ) → Serial (opened start places workers)
opened_serial start places workers = record {
  replays = refl;
  pending = λ worker w.
      let P : List Flip → Type 0 = λ fs. IsSome (replay start fs) in
      subst P (sym (nothing worker w)) refl;
  owned = λ worker place w t. absurd (true≢false (sym t ∙ ap (flips_touch place) (nothing worker w)));
  numbered = λ worker. refl;
}
  where
    nothing : (worker : ℕ) → IsWorker (opened start places workers) worker → pending_of (opened start places workers) worker ≡ []
    nothing worker w = get_or-replicate workers (worker - 1) [] [] (omega (arith, w.low, w.high, length-replicate {A = List Flip} workers []))

pub serial_runs : RunsAreSerial
serial_runs start places workers turns k h = runs_from (opened start places workers) turns k.rising (opened_serial start places workers) h
