-- One event: what it is told or why it is refused, and the core after it, by the row of the event.
use Rattle.std.specs.Prelude.{◌≡◌, ◌≢◌, true, false, ℕ, ◌<◌, ◌≤◌, Bool, nat_le, nat_eq, [], ◌∷◌, ◌++◌, length, Result, Ok, Err}
use Rattle.flip_rules.specs.Flips.{broken_rule}
use Rattle.flip_rules.specs.Entries.{JournalEntry}
use Rattle.flip_rules.specs.Journals.{flip_touches}
use Rattle.flip_rules.specs.declared.flip.Flip.{Flip}
use Rattle.flip_rules.specs.declared.flip.Illegal.TheVariants.{Shape}
use Rattle.core_laws.specs.declared.event.Event.{Event}
use Rattle.core_laws.specs.declared.event.Event.TheVariants as event
use Rattle.core_laws.specs.declared.event.Told.{Told}
use Rattle.core_laws.specs.declared.event.Told.TheVariants.{Claimed, AlreadyHeld, Flipped, RolledBack, Committed, Released}
use Rattle.core_laws.specs.declared.event.Refused.{Refused}
use Rattle.core_laws.specs.declared.event.Refused.TheVariants as refused
use Rattle.core_laws.specs.declared.event.StepFault.{StepFault}
use Rattle.core_laws.specs.declared.event.StepFault.TheVariants as fault
use Rattle.core_laws.specs.Cores.{Core, IsWorker, places_of, owner_of, pending_of, with_owner, with_pending, seen_by, of_worker}

-- ---- the labels of a flip

-- each label of the flip passes the test
abbrev pub EachLabel : (ℕ → Bool) → Flip → Type 0
EachLabel test f = (p : ℕ) → flip_touches p f ≡ true → test p ≡ true

-- the least label of the flip that fails the test
pub record IsLeastFailing (test : ℕ → Bool) (f : Flip) (label : ℕ) : Type 0 where
  pub there : flip_touches label f ≡ true
  pub fails : test label ≡ false
  pub least : (p : ℕ) → flip_touches p f ≡ true → test p ≡ false → label ≤ p

abbrev pub is_place : Core → ℕ → Bool
is_place c p = nat_le p (places_of c)

abbrev pub is_owned : Core → ℕ → ℕ → Bool
is_owned c worker p = nat_eq (owner_of c p) worker

-- ---- Claim

abbrev pub ClaimRefused : Core → ℕ → ℕ → Refused → Type 0
ClaimRefused c worker place (refused.NoPlace p) = (p ≡ place) × (places_of c < place)
ClaimRefused c worker place (refused.Busy p owner) = (p ≡ place) × (place ≤ places_of c) × (owner ≡ owner_of c place) × (owner ≢ 0) × (owner ≢ worker)
ClaimRefused c worker place other = ⊥

-- the worker owns the place; nothing changes where it did before
abbrev pub ClaimTold : Core → ℕ → ℕ → Told → Core → Type 0
ClaimTold c worker place Claimed next = (place ≤ places_of c) × (owner_of c place ≡ 0) × (next ≡ with_owner c place worker)
ClaimTold c worker place AlreadyHeld next = (place ≤ places_of c) × (owner_of c place ≡ worker) × (next ≡ c)
ClaimTold c worker place other next = ⊥

-- ---- Flip

-- the flip stands on places and has the sizes of a flip
pub record FlipFits (c : Core) (worker : ℕ) (f : Flip) : Type 0 where
  pub places : EachLabel (is_place c) f
  pub shape : broken_rule (seen_by c worker) f.a f.b ≢ Err Shape

-- the worker owns each of its labels too
pub record FlipHeld (c : Core) (worker : ℕ) (f : Flip) : Type 0 where
  pub fits : FlipFits c worker f
  pub owned : EachLabel (is_owned c worker) f

abbrev pub FlipRefused : Core → ℕ → Flip → Refused → Type 0
FlipRefused c worker f (refused.NoPlace p) = IsLeastFailing (is_place c) f p
FlipRefused c worker f (refused.Illegal Shape) = EachLabel (is_place c) f × (broken_rule (seen_by c worker) f.a f.b ≡ Err Shape)
FlipRefused c worker f (refused.NotHeld p) = FlipFits c worker f × IsLeastFailing (is_owned c worker) f p
FlipRefused c worker f (refused.Illegal reason) = FlipHeld c worker f × (broken_rule (seen_by c worker) f.a f.b ≡ Err reason)
FlipRefused c worker f other = ⊥

-- why a flip isn't made: refused by its row, or for want of memory
abbrev pub FlipAnswer : Core → ℕ → Flip → StepFault → Type 0
FlipAnswer c worker f (fault.Refused reason) = FlipRefused c worker f reason
FlipAnswer c worker f fault.Memory = Unit {0}

-- the flip is legal after the pending ones, and is appended to them
abbrev pub FlipTold : Core → ℕ → Flip → Told → Core → Type 0
FlipTold c worker f Flipped next = FlipHeld c worker f × (broken_rule (seen_by c worker) f.a f.b ≡ Ok tt) × (next ≡ with_pending c worker (pending_of c worker ++ f ∷ []))
FlipTold c worker f other next = ⊥

-- ---- Rollback

-- the pending flips are dropped, and their number is told
abbrev pub RollbackTold : Core → ℕ → Told → Core → Type 0
RollbackTold c worker (RolledBack count) next = (count ≡ length (pending_of c worker)) × (next ≡ with_pending c worker [])
RollbackTold c worker other next = ⊥

-- ---- Commit

abbrev pub CommitRefused : Core → ℕ → Refused → Type 0
CommitRefused c worker (refused.NotHeld p) = (p ≡ 0) × (owner_of c 0 ≢ worker)
CommitRefused c worker refused.NoFlips = (owner_of c 0 ≡ worker) × (pending_of c worker ≡ [])
CommitRefused c worker other = ⊥

-- why a commit isn't made: refused by its row, or for want of memory
abbrev pub CommitAnswer : Core → ℕ → StepFault → Type 0
CommitAnswer c worker (fault.Refused reason) = CommitRefused c worker reason
CommitAnswer c worker fault.Memory = Unit {0}

-- the pending flips as an entry of this round, with the worker's next number
abbrev pub next_entry : Core → ℕ → ℕ → JournalEntry
next_entry c round worker = record { round = round; worker = worker; seq = length (of_worker c.journal worker); flips = pending_of c worker }

-- one entry more, nothing pending, and place 0 is free
abbrev pub committed : Core → ℕ → ℕ → Core
committed c round worker = record (with_owner (with_pending c worker []) 0 0) { journal = c.journal ++ next_entry c round worker ∷ [] }

abbrev pub CommitTold : Core → ℕ → Told → Core → Type 0
CommitTold c worker (Committed seq) next = (owner_of c 0 ≡ worker) × (pending_of c worker ≢ []) × (seq ≡ length (of_worker c.journal worker)) × (next ≡ committed c 0 worker)
CommitTold c worker other next = ⊥

-- ---- Release

abbrev pub ReleaseRefused : Core → ℕ → ℕ → Refused → Type 0
ReleaseRefused c worker place (refused.NoPlace p) = (p ≡ place) × (places_of c < place)
ReleaseRefused c worker place (refused.NotHeld p) = (p ≡ place) × (place ≤ places_of c) × (owner_of c place ≢ worker)
ReleaseRefused c worker place (refused.Pending count) = (place ≤ places_of c) × (owner_of c place ≡ worker) × (place ≢ 0) × (count ≡ length (pending_of c worker)) × (0 < count)
ReleaseRefused c worker place other = ⊥

-- the place is free
abbrev pub ReleaseTold : Core → ℕ → ℕ → Told → Core → Type 0
ReleaseTold c worker place Released next = (place ≤ places_of c) × (owner_of c place ≡ worker) × (place ≢ 0 → pending_of c worker ≡ []) × (next ≡ with_owner c place 0)
ReleaseTold c worker place other next = ⊥

-- ---- all rows

abbrev pub worker_of : Event → ℕ
worker_of (event.Claim worker place) = worker
worker_of (event.Flip worker f) = worker
worker_of (event.Rollback worker) = worker
worker_of (event.Commit worker) = worker
worker_of (event.Release worker place) = worker

-- the reasons of an event's own row
abbrev pub RowRefuses : Core → Event → Refused → Type 0
RowRefuses c (event.Claim worker place) reason = ClaimRefused c worker place reason
RowRefuses c (event.Flip worker f) reason = FlipRefused c worker f reason
RowRefuses c (event.Rollback worker) reason = ⊥
RowRefuses c (event.Commit worker) reason = CommitRefused c worker reason
RowRefuses c (event.Release worker place) reason = ReleaseRefused c worker place reason

-- what is told by the event's own row, and the core after it
abbrev pub RowTells : Core → Event → Told → Core → Type 0
RowTells c (event.Claim worker place) told next = ClaimTold c worker place told next
RowTells c (event.Flip worker f) told next = FlipTold c worker f told next
RowTells c (event.Rollback worker) told next = RollbackTold c worker told next
RowTells c (event.Commit worker) told next = CommitTold c worker told next
RowTells c (event.Release worker place) told next = ReleaseTold c worker place told next

-- why an event is refused: there is no such worker, or else by its row
abbrev pub Refuses : Core → Event → Refused → Type 0
Refuses c event refused.NoWorker = IsWorker c (worker_of event) → ⊥
Refuses c event reason = IsWorker c (worker_of event) × RowRefuses c event reason

-- the answer to an event, and the core after it: a refused event leaves the core as it is
abbrev pub Step : Core → Event → Result Told Refused → Core → Type 0
Step c event (Ok told) next = IsWorker c (worker_of event) × RowTells c event told next
Step c event (Err reason) next = Refuses c event reason × (next ≡ c)

-- a step that isn't made: refused by its row, or for want of memory
abbrev pub StepRefused : Core → Event → StepFault → Type 0
StepRefused c event (fault.Refused reason) = Refuses c event reason
StepRefused c event fault.Memory = Unit {0}
