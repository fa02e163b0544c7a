-- A step adds at most one entry and at most one flip.
use Rattle.std.proofs.Common.{◌≡◌, inl, inr, ℕ, ◌+◌, ◌-◌, ◌≤◌, List, [], ◌∷◌, ◌++◌, length, get_or, set, replicate, Result, Ok, Err, IfOk, OnErr, sym, ◌∙◌, ap, subst, arith, length-append}
use Rattle.std.proofs.lemmas.List.{get_or-set_same, get_or-set_other, get_or-replicate, length-replicate}
use Rattle.std.proofs.Math.ListN.{get_or-eq_default}
use Rattle.std.proofs.lemmas.Bool.{cases_lt}
use Rattle.complex_core.specs.Complexes.{ComplexView}
use Rattle.flip_rules.specs.declared.flip.Flip.{Flip}
use Rattle.core_laws.specs.declared.event.Event.{Event}
use Rattle.core_laws.specs.declared.event.Event.TheVariants as event
use Rattle.core_laws.specs.declared.event.Told.{Told}
use Rattle.core_laws.specs.declared.event.Told.TheVariants.{Claimed, AlreadyHeld, Flipped, RolledBack, Committed, Released}
use Rattle.core_laws.specs.declared.event.StepFault.{StepFault}
use Rattle.core_laws.specs.Cores.{Core, IsWorker, IsWithin, opened, pending_of, with_pending}
use Rattle.core_laws.specs.Steps.{Step, next_entry}
use Rattle.core_laws.proofs.Rows.{same_or_not}

abbrev Grown : ℕ → Core → Core → Type 0
Grown count c next = IsWithin (count + 1) next

-- more room is room
more_room : (count : ℕ) (c : Core) → IsWithin count c → IsWithin (count + 1) c
more_room count c w = record { journal = omega (arith, w.journal); pending = λ worker. omega (arith, w.pending worker) }

to_next : (count : ℕ) (next made : Core) → next ≡ made → IsWithin count made → IsWithin count next
to_next count next made e w = let P : Core → Type 0 = λ d. IsWithin count d in subst P (sym e) w

-- one worker's pending flips are others
short_pending : (count : ℕ) (c : Core) (worker : ℕ) (flips : List Flip) → IsWithin count c → IsWorker c worker → length flips ≤ count + 1 → (other : ℕ) → length (pending_of (with_pending c worker flips) other) ≤ count + 1
short_pending count c worker flips w v l other = elim (same_or_not (other - 1) (worker - 1)) [
  | inl e ↦
      let f : pending_of (with_pending c worker flips) other ≡ flips = ap (λ i. get_or (set c.pending (worker - 1) flips) i []) e ∙ get_or-set_same c.pending (worker - 1) flips [] (omega (arith, v.low, v.high)) in
      omega (arith, ap length f, l)
  | inr n ↦
      let f : pending_of (with_pending c worker flips) other ≡ pending_of c other = get_or-set_other c.pending (worker - 1) (other - 1) flips [] n in
      omega (arith, ap length f, w.pending other)
]

row_grows : (count : ℕ) (c next : Core) (e : Event) (told : Told) → IsWithin count c → Step c e (Ok told) next → IsWithin (count + 1) next
row_grows count c next (event.Claim worker place) Claimed w h = to_next (count + 1) next _ h.1.2 (record { journal = omega (arith, w.journal); pending = λ other. omega (arith, w.pending other) })
row_grows count c next (event.Claim worker place) AlreadyHeld w h = to_next (count + 1) next c h.1.2 (more_room count c w)
row_grows count c next (event.Claim worker place) Flipped w h = absurd h.1
row_grows count c next (event.Claim worker place) (RolledBack n) w h = absurd h.1
row_grows count c next (event.Claim worker place) (Committed n) w h = absurd h.1
row_grows count c next (event.Claim worker place) Released w h = absurd h.1
row_grows count c next (event.Flip worker f) Flipped w h = to_next (count + 1) next _ h.1.2 (record {
  journal = omega (arith, w.journal);
  pending = short_pending count c worker (pending_of c worker ++ f ∷ []) w h.0 (omega (arith, length-append (pending_of c worker) (f ∷ []), w.pending worker));
})
row_grows count c next (event.Flip worker f) Claimed w h = absurd h.1
row_grows count c next (event.Flip worker f) AlreadyHeld w h = absurd h.1
row_grows count c next (event.Flip worker f) (RolledBack n) w h = absurd h.1
row_grows count c next (event.Flip worker f) (Committed n) w h = absurd h.1
row_grows count c next (event.Flip worker f) Released w h = absurd h.1
row_grows count c next (event.Rollback worker) (RolledBack n) w h = to_next (count + 1) next _ h.1.1 (record { journal = omega (arith, w.journal); pending = short_pending count c worker [] w h.0 (omega arith) })
row_grows count c next (event.Rollback worker) Claimed w h = absurd h.1
row_grows count c next (event.Rollback worker) AlreadyHeld w h = absurd h.1
row_grows count c next (event.Rollback worker) Flipped w h = absurd h.1
row_grows count c next (event.Rollback worker) (Committed n) w h = absurd h.1
row_grows count c next (event.Rollback worker) Released w h = absurd h.1
row_grows count c next (event.Commit worker) (Committed n) w h = to_next (count + 1) next _ h.1.3 (record {
  journal = omega (arith, length-append c.journal (next_entry c 0 worker ∷ []), w.journal);
  pending = short_pending count c worker [] w h.0 (omega arith);
})
row_grows count c next (event.Commit worker) Claimed w h = absurd h.1
row_grows count c next (event.Commit worker) AlreadyHeld w h = absurd h.1
row_grows count c next (event.Commit worker) Flipped w h = absurd h.1
row_grows count c next (event.Commit worker) (RolledBack n) w h = absurd h.1
row_grows count c next (event.Commit worker) Released w h = absurd h.1
row_grows count c next (event.Release worker place) Released w h = to_next (count + 1) next _ h.1.3 (record { journal = omega (arith, w.journal); pending = λ other. omega (arith, w.pending other) })
row_grows count c next (event.Release worker place) Claimed w h = absurd h.1
row_grows count c next (event.Release worker place) AlreadyHeld w h = absurd h.1
row_grows count c next (event.Release worker place) Flipped w h = absurd h.1
row_grows count c next (event.Release worker place) (RolledBack n) w h = absurd h.1
row_grows count c next (event.Release worker place) (Committed n) w h = absurd h.1

pub step_grows : (c next : Core) (e : Event) (r : Result Told StepFault) → IfOk r (λ told. Step c e (Ok told) next) → OnErr r (next ≡ c) → (count : ℕ) → IsWithin count c → IsWithin (count + 1) next
step_grows c next e (Ok told) h same count w = row_grows count c next e told w h
step_grows c next e (Err fault) h same count w = to_next (count + 1) next c same (more_room count c w)

pub opened_within : (c : Core) (start : ComplexView) (places workers : ℕ) → c ≡ opened start places workers → IsWithin 0 c
opened_within c start places workers e = to_next 0 c (opened start places workers) e (record { journal = omega arith; pending = λ worker. nothing worker })
  where
    nothing : (worker : ℕ) → length {A = Flip} (get_or (replicate workers []) (worker - 1) []) ≤ 0
    nothing worker = elim (cases_lt (worker - 1) workers) [
      | inl l ↦ let e : get_or {A = List Flip} (replicate workers []) (worker - 1) [] ≡ [] = get_or-replicate workers (worker - 1) [] [] l in omega (arith, ap (λ (fs : List Flip). length fs) e)
      | inr l ↦ let e : get_or {A = List Flip} (replicate workers []) (worker - 1) [] ≡ [] = get_or-eq_default (replicate workers []) [] (omega (arith, length-replicate {A = List Flip} workers [], l)) in omega (arith, ap (λ (fs : List Flip). length fs) e)
    ]
