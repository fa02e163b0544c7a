-- An event has one answer, and leads to one core.
use Rattle.std.proofs.Common.{◌≡◌, ◌≢◌, ℕ, ◌<◌, ◌≤◌, Bool, true, false, nat_eq, nat_le, ◌||◌, ◌⊎◌, inl, inr, List, [], ◌∷◌, ◌++◌, map, length, Result, Ok, Err, sym, ◌∙◌, ap, refl, subst, arith, eq-eqb}
use Rattle.std.proofs.lemmas.Bool.{true≢false, ne_eqb, le-leb}
use Rattle.std.proofs.lemmas.Bool.Decides.{nat_tests}
use Rattle.flip_rules.specs.Flips.{broken_rule}
use Rattle.flip_rules.specs.declared.flip.Flip.{Flip}
use Rattle.flip_rules.specs.declared.flip.Illegal.{Illegal}
use Rattle.flip_rules.specs.declared.flip.Illegal.TheVariants.{Shape, NotAFace, LinkDiffers, BIsFace}
use Rattle.core_laws.specs.declared.event.Event.{Event}
use Rattle.core_laws.specs.declared.event.Event.TheVariants as event
use Rattle.core_laws.specs.declared.event.Told.{Told}
use Rattle.core_laws.specs.declared.event.Told.TheVariants.{Claimed, AlreadyHeld, Flipped, RolledBack, Committed, Released}
use Rattle.core_laws.specs.declared.event.Refused.{Refused}
use Rattle.core_laws.specs.declared.event.Refused.TheVariants as refused
use Rattle.core_laws.specs.Cores.{Core, IsWorker, places_of, owner_of, pending_of, with_owner, with_pending, seen_by, of_worker}
use Rattle.core_laws.specs.Steps.{EachLabel, IsLeastFailing, is_place, is_owned, FlipHeld, ClaimTold, ClaimRefused, FlipTold, FlipRefused, RollbackTold, CommitTold, CommitRefused, ReleaseTold, ReleaseRefused, committed, worker_of, RowTells, RowRefuses, Step}
use Rattle.core_laws.specs.Runs.{Turn, IsRun, StepIsOne, RunsAreOne}
use Rattle.core_laws.proofs.Rows.{same_or_not}

-- the answer, and the core after it
abbrev Outcome : Type 0
Outcome = Result Told Refused × Core

-- ---- tests

beyond : (n m : ℕ) → m < n → nat_le n m ≡ false
beyond n m h = grind (arith, nat_tests)

abbrev none : List Flip → Bool
none [] = true
none (f ∷ fs) = false

some : (fs : List Flip) → (fs ≢ []) → none fs ≡ false
some [] h = absurd (h refl)
some (f ∷ fs) h = refl

counted : (fs : List Flip) (n : ℕ) → n ≡ length fs → 0 < n → none fs ≡ false
counted [] n e l = absurd (omega (arith, e, l))
counted (f ∷ fs) n e l = refl

-- ---- Claim

abbrev claim_by : Bool → Bool → Bool → Core → ℕ → ℕ → Outcome
claim_by true true free c worker place = (Ok AlreadyHeld, c)
claim_by true false true c worker place = (Ok Claimed, with_owner c place worker)
claim_by true false false c worker place = (Err (refused.Busy place (owner_of c place)), c)
claim_by false mine free c worker place = (Err (refused.NoPlace place), c)

abbrev claim_outcome : Core → ℕ → ℕ → Outcome
claim_outcome c worker place = claim_by (nat_le place (places_of c)) (nat_eq (owner_of c place) worker) (nat_eq (owner_of c place) 0) c worker place

claim_told : (c next : Core) (worker place : ℕ) (told : Told) → IsWorker c worker → ClaimTold c worker place told next → (Ok told, next) ≡ claim_outcome c worker place
claim_told c next worker place Claimed v h =
    let there : nat_le place (places_of c) ≡ true = le-leb place (places_of c) h.0 in
    let free : nat_eq (owner_of c place) 0 ≡ true = eq-eqb (owner_of c place) 0 h.1 in
    let mine : nat_eq (owner_of c place) worker ≡ false = ne_eqb (owner_of c place) worker (λ e. omega (arith, v.low, h.1, e)) in
    (λ i. (Ok Claimed, h.2 i)) ∙ sym (λ i. claim_by (there i) (mine i) (free i) c worker place)
claim_told c next worker place AlreadyHeld v h =
    let there : nat_le place (places_of c) ≡ true = le-leb place (places_of c) h.0 in
    let mine : nat_eq (owner_of c place) worker ≡ true = eq-eqb (owner_of c place) worker h.1 in
    (λ i. (Ok AlreadyHeld, h.2 i)) ∙ sym (λ i. claim_by (there i) (mine i) (nat_eq (owner_of c place) 0) c worker place)
claim_told c next worker place Flipped v h = absurd h
claim_told c next worker place (RolledBack n) v h = absurd h
claim_told c next worker place (Committed n) v h = absurd h
claim_told c next worker place Released v h = absurd h

claim_refused : (c : Core) (worker place : ℕ) (reason : Refused) → ClaimRefused c worker place reason → (Err reason, c) ≡ claim_outcome c worker place
claim_refused c worker place (refused.NoPlace p) h =
    let there : nat_le place (places_of c) ≡ false = beyond place (places_of c) h.1 in
    (λ i. (Err (refused.NoPlace (h.0 i)), c)) ∙ sym (λ i. claim_by (there i) (nat_eq (owner_of c place) worker) (nat_eq (owner_of c place) 0) c worker place)
claim_refused c worker place (refused.Busy p owner) h =
    let there : nat_le place (places_of c) ≡ true = le-leb place (places_of c) h.1 in
    let mine : nat_eq (owner_of c place) worker ≡ false = ne_eqb (owner_of c place) worker (λ e. h.4 (h.2 ∙ e)) in
    let free : nat_eq (owner_of c place) 0 ≡ false = ne_eqb (owner_of c place) 0 (λ e. h.3 (h.2 ∙ e)) in
    (λ i. (Err (refused.Busy (h.0 i) (h.2 i)), c)) ∙ sym (λ i. claim_by (there i) (mine i) (free i) c worker place)
claim_refused c worker place refused.NoWorker h = absurd h
claim_refused c worker place (refused.NotHeld p) h = absurd h
claim_refused c worker place (refused.Illegal e) h = absurd h
claim_refused c worker place refused.NoFlips h = absurd h
claim_refused c worker place (refused.Pending n) h = absurd h

-- ---- Flip

-- some label is the least that fails the test, or each passes it
abbrev Chosen : (ℕ → Bool) → Flip → (ℕ → Type 0) → Type 0 → Type 0
Chosen test f P Q = ((p : ℕ) × IsLeastFailing test f p × P p) ⊎ (EachLabel test f × Q)

least_is_one : (test : ℕ → Bool) (f : Flip) (p q : ℕ) → IsLeastFailing test f p → IsLeastFailing test f q → p ≡ q
least_is_one test f p q h g = let l : p ≤ q = h.least q g.there g.fails in let m : q ≤ p = g.least p h.there h.fails in omega (arith, l, m)

never_both : (test : ℕ → Bool) (f : Flip) (p : ℕ) → IsLeastFailing test f p → EachLabel test f → ⊥
never_both test f p h each = true≢false (sym (each p h.there) ∙ h.fails)

chosen_one : (test : ℕ → Bool) (f : Flip) (x : ℕ → Outcome) (o u : Outcome) (Q R : Type 0) → (Q → R → o ≡ u) → Chosen test f (λ p. o ≡ x p) Q → Chosen test f (λ p. u ≡ x p) R → o ≡ u
chosen_one test f x o u Q R more (inl h) (inl g) = h.2 ∙ ap x (least_is_one test f h.0 g.0 h.1 g.1) ∙ sym g.2
chosen_one test f x o u Q R more (inl h) (inr g) = absurd (never_both test f h.0 h.1 g.0)
chosen_one test f x o u Q R more (inr h) (inl g) = absurd (never_both test f g.0 g.1 h.0)
chosen_one test f x o u Q R more (inr h) (inr g) = more h.1 g.1

abbrev judged_by : Result (Unit {0}) Illegal → Core → ℕ → Flip → Outcome
judged_by (Ok u) c worker f = (Ok Flipped, with_pending c worker (pending_of c worker ++ f ∷ []))
judged_by (Err reason) c worker f = (Err (refused.Illegal reason), c)

-- the flip is judged by its owner
abbrev HeldView : Core → ℕ → Flip → Outcome → Type 0
HeldView c worker f o = Chosen (is_owned c worker) f (λ p. o ≡ (Err (refused.NotHeld p), c)) (o ≡ judged_by (broken_rule (seen_by c worker) f.a f.b) c worker f)

abbrev ShapeView : Core → ℕ → Flip → Outcome → Type 0
ShapeView c worker f o = ((broken_rule (seen_by c worker) f.a f.b ≡ Err Shape) × (o ≡ (Err (refused.Illegal Shape), c))) ⊎ ((broken_rule (seen_by c worker) f.a f.b ≢ Err Shape) × HeldView c worker f o)

abbrev FlipView : Core → ℕ → Flip → Outcome → Type 0
FlipView c worker f o = Chosen (is_place c) f (λ p. o ≡ (Err (refused.NoPlace p), c)) (ShapeView c worker f o)

shape_one : (c : Core) (worker : ℕ) (f : Flip) (o u : Outcome) → ShapeView c worker f o → ShapeView c worker f u → o ≡ u
shape_one c worker f o u (inl h) (inl g) = h.1 ∙ sym g.1
shape_one c worker f o u (inl h) (inr g) = absurd (g.0 h.0)
shape_one c worker f o u (inr h) (inl g) = absurd (h.0 g.0)
shape_one c worker f o u (inr h) (inr g) = chosen_one (is_owned c worker) f (λ p. (Err (refused.NotHeld p), c)) o u (o ≡ judged_by (broken_rule (seen_by c worker) f.a f.b) c worker f) (u ≡ judged_by (broken_rule (seen_by c worker) f.a f.b) c worker f) (λ a b. a ∙ sym b) h.1 g.1

flip_one : (c : Core) (worker : ℕ) (f : Flip) (o u : Outcome) → FlipView c worker f o → FlipView c worker f u → o ≡ u
flip_one c worker f o u h g = chosen_one (is_place c) f (λ p. (Err (refused.NoPlace p), c)) o u (ShapeView c worker f o) (ShapeView c worker f u) (shape_one c worker f o u) h g

held_view : (c : Core) (worker : ℕ) (f : Flip) (o : Outcome) → FlipHeld c worker f → o ≡ judged_by (broken_rule (seen_by c worker) f.a f.b) c worker f → FlipView c worker f o
held_view c worker f o h e = inr (h.fits.places, inr (h.fits.shape, inr (h.owned, e)))

flip_told : (c next : Core) (worker : ℕ) (f : Flip) (told : Told) → FlipTold c worker f told next → FlipView c worker f (Ok told, next)
flip_told c next worker f Flipped h = held_view c worker f (Ok Flipped, next) h.0 ((λ i. (Ok Flipped, h.2 i)) ∙ sym (λ i. judged_by (h.1 i) c worker f))
flip_told c next worker f Claimed h = absurd h
flip_told c next worker f AlreadyHeld h = absurd h
flip_told c next worker f (RolledBack n) h = absurd h
flip_told c next worker f (Committed n) h = absurd h
flip_told c next worker f Released h = absurd h

flip_refused : (c : Core) (worker : ℕ) (f : Flip) (reason : Refused) → FlipRefused c worker f reason → FlipView c worker f (Err reason, c)
flip_refused c worker f (refused.NoPlace p) h = inl (p, h, refl)
flip_refused c worker f (refused.Illegal Shape) h = inr (h.0, inl (h.1, refl))
flip_refused c worker f (refused.Illegal NotAFace) h = held_view c worker f (Err (refused.Illegal NotAFace), c) h.0 (sym (λ i. judged_by (h.1 i) c worker f))
flip_refused c worker f (refused.Illegal LinkDiffers) h = held_view c worker f (Err (refused.Illegal LinkDiffers), c) h.0 (sym (λ i. judged_by (h.1 i) c worker f))
flip_refused c worker f (refused.Illegal BIsFace) h = held_view c worker f (Err (refused.Illegal BIsFace), c) h.0 (sym (λ i. judged_by (h.1 i) c worker f))
flip_refused c worker f (refused.NotHeld p) h = inr (h.0.places, inr (h.0.shape, inl (p, h.1, refl)))
flip_refused c worker f refused.NoWorker h = absurd h
flip_refused c worker f (refused.Busy p owner) h = absurd h
flip_refused c worker f refused.NoFlips h = absurd h
flip_refused c worker f (refused.Pending n) h = absurd h

-- ---- Rollback

abbrev rollback_outcome : Core → ℕ → Outcome
rollback_outcome c worker = (Ok (RolledBack (length (pending_of c worker))), with_pending c worker [])

rollback_told : (c next : Core) (worker : ℕ) (told : Told) → RollbackTold c worker told next → (Ok told, next) ≡ rollback_outcome c worker
rollback_told c next worker (RolledBack n) h = λ i. (Ok (RolledBack (h.0 i)), h.1 i)
rollback_told c next worker Claimed h = absurd h
rollback_told c next worker AlreadyHeld h = absurd h
rollback_told c next worker Flipped h = absurd h
rollback_told c next worker (Committed n) h = absurd h
rollback_told c next worker Released h = absurd h

-- ---- Commit

abbrev commit_by : Bool → Bool → Core → ℕ → Outcome
commit_by true true c worker = (Err refused.NoFlips, c)
commit_by true false c worker = (Ok (Committed (length (of_worker c.journal worker))), committed c 0 worker)
commit_by false empty c worker = (Err (refused.NotHeld 0), c)

abbrev commit_outcome : Core → ℕ → Outcome
commit_outcome c worker = commit_by (nat_eq (owner_of c 0) worker) (none (pending_of c worker)) c worker

commit_told : (c next : Core) (worker : ℕ) (told : Told) → CommitTold c worker told next → (Ok told, next) ≡ commit_outcome c worker
commit_told c next worker (Committed n) h =
    let mine : nat_eq (owner_of c 0) worker ≡ true = eq-eqb (owner_of c 0) worker h.0 in
    let full : none (pending_of c worker) ≡ false = some (pending_of c worker) h.1 in
    (λ i. (Ok (Committed (h.2 i)), h.3 i)) ∙ sym (λ i. commit_by (mine i) (full i) c worker)
commit_told c next worker Claimed h = absurd h
commit_told c next worker AlreadyHeld h = absurd h
commit_told c next worker Flipped h = absurd h
commit_told c next worker (RolledBack n) h = absurd h
commit_told c next worker Released h = absurd h

commit_refused : (c : Core) (worker : ℕ) (reason : Refused) → CommitRefused c worker reason → (Err reason, c) ≡ commit_outcome c worker
commit_refused c worker (refused.NotHeld p) h =
    let mine : nat_eq (owner_of c 0) worker ≡ false = ne_eqb (owner_of c 0) worker h.1 in
    (λ i. (Err (refused.NotHeld (h.0 i)), c)) ∙ sym (λ i. commit_by (mine i) (none (pending_of c worker)) c worker)
commit_refused c worker refused.NoFlips h =
    let mine : nat_eq (owner_of c 0) worker ≡ true = eq-eqb (owner_of c 0) worker h.0 in
    sym (λ i. commit_by (mine i) (none (h.1 i)) c worker)
commit_refused c worker refused.NoWorker h = absurd h
commit_refused c worker (refused.NoPlace p) h = absurd h
commit_refused c worker (refused.Busy p owner) h = absurd h
commit_refused c worker (refused.Illegal e) h = absurd h
commit_refused c worker (refused.Pending n) h = absurd h

-- ---- Release

abbrev release_by : Bool → Bool → Bool → Core → ℕ → ℕ → Outcome
release_by true true true c worker place = (Ok Released, with_owner c place 0)
release_by true true false c worker place = (Err (refused.Pending (length (pending_of c worker))), c)
release_by true false may c worker place = (Err (refused.NotHeld place), c)
release_by false mine may c worker place = (Err (refused.NoPlace place), c)

-- the journal's place is given back at any time, a label's only where nothing is pending
abbrev may_release : Core → ℕ → ℕ → Bool
may_release c worker place = nat_eq place 0 || none (pending_of c worker)

abbrev release_outcome : Core → ℕ → ℕ → Outcome
release_outcome c worker place = release_by (nat_le place (places_of c)) (nat_eq (owner_of c place) worker) (may_release c worker place) c worker place

released : (c : Core) (worker place : ℕ) → (place ≢ 0 → pending_of c worker ≡ []) → may_release c worker place ≡ true
released c worker place h = elim (same_or_not place 0) [
  | inl e ↦ λ i. eq-eqb place 0 e i || none (pending_of c worker)
  | inr n ↦ λ i. ne_eqb place 0 n i || none (h n i)
]

release_told : (c next : Core) (worker place : ℕ) (told : Told) → ReleaseTold c worker place told next → (Ok told, next) ≡ release_outcome c worker place
release_told c next worker place Released h =
    let there : nat_le place (places_of c) ≡ true = le-leb place (places_of c) h.0 in
    let mine : nat_eq (owner_of c place) worker ≡ true = eq-eqb (owner_of c place) worker h.1 in
    let may : may_release c worker place ≡ true = released c worker place h.2 in
    (λ i. (Ok Released, h.3 i)) ∙ sym (λ i. release_by (there i) (mine i) (may i) c worker place)
release_told c next worker place Claimed h = absurd h
release_told c next worker place AlreadyHeld h = absurd h
release_told c next worker place Flipped h = absurd h
release_told c next worker place (RolledBack n) h = absurd h
release_told c next worker place (Committed n) h = absurd h

release_refused : (c : Core) (worker place : ℕ) (reason : Refused) → ReleaseRefused c worker place reason → (Err reason, c) ≡ release_outcome c worker place
release_refused c worker place (refused.NoPlace p) h =
    let there : nat_le place (places_of c) ≡ false = beyond place (places_of c) h.1 in
    (λ i. (Err (refused.NoPlace (h.0 i)), c)) ∙ sym (λ i. release_by (there i) (nat_eq (owner_of c place) worker) (may_release c worker place) c worker place)
release_refused c worker place (refused.NotHeld p) h =
    let there : nat_le place (places_of c) ≡ true = le-leb place (places_of c) h.1 in
    let mine : nat_eq (owner_of c place) worker ≡ false = ne_eqb (owner_of c place) worker h.2 in
    (λ i. (Err (refused.NotHeld (h.0 i)), c)) ∙ sym (λ i. release_by (there i) (mine i) (may_release c worker place) c worker place)
release_refused c worker place (refused.Pending n) h =
    let there : nat_le place (places_of c) ≡ true = le-leb place (places_of c) h.0 in
    let mine : nat_eq (owner_of c place) worker ≡ true = eq-eqb (owner_of c place) worker h.1 in
    let may : may_release c worker place ≡ false = λ i. ne_eqb place 0 h.2 i || counted (pending_of c worker) n h.3 h.4 i in
    (λ i. (Err (refused.Pending (h.3 i)), c)) ∙ sym (λ i. release_by (there i) (mine i) (may i) c worker place)
release_refused c worker place refused.NoWorker h = absurd h
release_refused c worker place (refused.Busy p owner) h = absurd h
release_refused c worker place (refused.Illegal e) h = absurd h
release_refused c worker place refused.NoFlips h = absurd h

-- ---- all rows

abbrev RowView : Core → Event → Outcome → Type 0
RowView c (event.Claim worker place) o = o ≡ claim_outcome c worker place
RowView c (event.Flip worker f) o = FlipView c worker f o
RowView c (event.Rollback worker) o = o ≡ rollback_outcome c worker
RowView c (event.Commit worker) o = o ≡ commit_outcome c worker
RowView c (event.Release worker place) o = o ≡ release_outcome c worker place

row_one : (c : Core) (e : Event) (o u : Outcome) → RowView c e o → RowView c e u → o ≡ u
row_one c (event.Claim worker place) o u h g = h ∙ sym g
row_one c (event.Flip worker f) o u h g = flip_one c worker f o u h g
row_one c (event.Rollback worker) o u h g = h ∙ sym g
row_one c (event.Commit worker) o u h g = h ∙ sym g
row_one c (event.Release worker place) o u h g = h ∙ sym g

row_told : (c next : Core) (e : Event) (told : Told) → IsWorker c (worker_of e) → RowTells c e told next → RowView c e (Ok told, next)
row_told c next (event.Claim worker place) told v h = claim_told c next worker place told v h
row_told c next (event.Flip worker f) told v h = flip_told c next worker f told h
row_told c next (event.Rollback worker) told v h = rollback_told c next worker told h
row_told c next (event.Commit worker) told v h = commit_told c next worker told h
row_told c next (event.Release worker place) told v h = release_told c next worker place told h

row_refused : (c : Core) (e : Event) (reason : Refused) → RowRefuses c e reason → RowView c e (Err reason, c)
row_refused c (event.Claim worker place) reason h = claim_refused c worker place reason h
row_refused c (event.Flip worker f) reason h = flip_refused c worker f reason h
row_refused c (event.Rollback worker) reason h = absurd h
row_refused c (event.Commit worker) reason h = commit_refused c worker reason h
row_refused c (event.Release worker place) reason h = release_refused c worker place reason h

-- there is no such worker, or the outcome is by the event's row
abbrev StepView : Core → Event → Outcome → Type 0
StepView c e o = ((IsWorker c (worker_of e) → ⊥) × (o ≡ (Err refused.NoWorker, c))) ⊎ (IsWorker c (worker_of e) × RowView c e o)

view_one : (c : Core) (e : Event) (o u : Outcome) → StepView c e o → StepView c e u → o ≡ u
view_one c e o u (inl h) (inl g) = h.1 ∙ sym g.1
view_one c e o u (inl h) (inr g) = absurd (h.0 g.0)
view_one c e o u (inr h) (inl g) = absurd (g.0 h.0)
view_one c e o u (inr h) (inr g) = row_one c e o u h.1 g.1

refused_view : (c next : Core) (e : Event) (reason : Refused) → IsWorker c (worker_of e) → RowRefuses c e reason → next ≡ c → StepView c e (Err reason, next)
refused_view c next e reason v h same = let P : Core → Type 0 = λ d. StepView c e (Err reason, d) in subst P (sym same) (inr (v, row_refused c e reason h))

step_view : (c next : Core) (e : Event) (answer : Result Told Refused) → Step c e answer next → StepView c e (answer, next)
step_view c next e (Ok told) h = inr (h.0, row_told c next e told h.0 h.1)
step_view c next e (Err refused.NoWorker) h = inl (h.0, λ i. (Err refused.NoWorker, h.1 i))
step_view c next e (Err (refused.NoPlace p)) h = refused_view c next e (refused.NoPlace p) h.0.0 h.0.1 h.1
step_view c next e (Err (refused.Busy p owner)) h = refused_view c next e (refused.Busy p owner) h.0.0 h.0.1 h.1
step_view c next e (Err (refused.NotHeld p)) h = refused_view c next e (refused.NotHeld p) h.0.0 h.0.1 h.1
step_view c next e (Err (refused.Illegal f)) h = refused_view c next e (refused.Illegal f) h.0.0 h.0.1 h.1
step_view c next e (Err refused.NoFlips) h = refused_view c next e refused.NoFlips h.0.0 h.0.1 h.1
step_view c next e (Err (refused.Pending n)) h = refused_view c next e (refused.Pending n) h.0.0 h.0.1 h.1

pub step_is_one : StepIsOne
step_is_one c n m e a b h g =
    let same : (a, n) ≡ (b, m) = view_one c e (a, n) (b, m) (step_view c n e a h) (step_view c m e b g) in
    (ap (λ (o : Outcome). o.0) same, ap (λ (o : Outcome). o.1) same)

-- ---- runs

heads : (e f : Event) (es fs : List Event) → e ∷ es ≡ f ∷ fs → e ≡ f
heads e f es fs h = cc

tails : (e f : Event) (es fs : List Event) → e ∷ es ≡ f ∷ fs → es ≡ fs
tails e f es fs h = cc

nil_cons : (e : Event) (es : List Event) → [] ≡ e ∷ es → ⊥
nil_cons e es h = cc

pub runs_one : RunsAreOne
runs_one c [] [] h g same = refl
runs_one c [] (u ∷ us) h g same = absurd (nil_cons u.event (map (λ (t : Turn). t.event) us) same)
runs_one c (t ∷ ts) [] h g same = absurd (nil_cons t.event (map (λ (t : Turn). t.event) ts) (sym same))
runs_one c (t ∷ ts) (u ∷ us) h g same =
    let asked : t.event ≡ u.event = heads t.event u.event (map (λ (t : Turn). t.event) ts) (map (λ (t : Turn). t.event) us) same in
    let P : Event → Type 0 = λ e. Step c e u.answer u.next in
    let Q : Core → Type 0 = λ d. IsRun d us in
    let step : (t.answer ≡ u.answer) × (t.next ≡ u.next) = step_is_one c t.next u.next t.event t.answer u.answer h.1 (subst P (sym asked) g.1) in
    let rest : ts ≡ us = runs_one t.next ts us h.2 (subst Q (sym step.1) g.2) (tails t.event u.event (map (λ (t : Turn). t.event) ts) (map (λ (t : Turn). t.event) us) same) in
    λ i. (record { event = asked i; answer = step.0 i; next = step.1 i }) ∷ rest i
