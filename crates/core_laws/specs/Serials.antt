-- What makes a core serial: its journal is one legal history, and what is pending fits behind it.
use Rattle.std.specs.Prelude.{◌≡◌, true, ℕ, ◌+◌, ◌<◌, ◌≤◌, List, [], ◌∷◌, map, IsSome}
use Rattle.flip_rules.specs.Flips.{replay}
use Rattle.flip_rules.specs.Entries.{JournalEntry}
use Rattle.flip_rules.specs.Journals.{flat}
use Rattle.star_laws.specs.Stars.{flips_touch}
use Rattle.core_laws.specs.Cores.{Core, IsWorker, places_of, owner_of, pending_of, complex_of, of_worker}

-- the place is a label's, and the worker owns it
pub record OwnsLabel (c : Core) (worker place : ℕ) : Type 0 where
  pub low : 0 < place
  pub high : place ≤ places_of c
  pub owner : owner_of c place ≡ worker

-- as many numbers from this one up as there are entries
abbrev pub numbers_from : ℕ → List JournalEntry → List ℕ
numbers_from n [] = []
numbers_from n (e ∷ es) = n ∷ numbers_from (n + 1) es

-- 1. the journal's flips replay from the start
-- 2. each worker's pending flips replay on the complex of the core
-- 3. each label of a worker's pending flips is owned by that worker
-- 4. the entries of each worker have the numbers 0, 1, 2, .. in order
pub record Serial (c : Core) : Type 0 where
  pub replays : IsSome (replay c.start (flat c.journal))
  pub pending : (worker : ℕ) → IsWorker c worker → IsSome (replay (complex_of c) (pending_of c worker))
  pub owned : (worker place : ℕ) → IsWorker c worker → flips_touch place (pending_of c worker) ≡ true → OwnsLabel c worker place
  pub numbered : (worker : ℕ) → map (λ (e : JournalEntry). e.seq) (of_worker c.journal worker) ≡ numbers_from 0 (of_worker c.journal worker)
