-- What contracts see of a world: places with owners, workers with pending flips, and a journal.
use Rattle.std.specs.Prelude.{ℕ, ◌+◌, ◌-◌, ◌<◌, ◌≤◌, nat_eq, List, [], length, filter, get_or, set, replicate, unwrap_or}
use Rattle.complex_core.specs.Complexes.{ComplexView}
use Rattle.flip_rules.specs.Flips.{replay}
use Rattle.flip_rules.specs.Entries.{JournalEntry}
use Rattle.flip_rules.specs.Journals.{flat}
use Rattle.flip_rules.specs.declared.flip.Flip.{Flip}

-- the owners of the places from 0, 0 meaning free, and the pending flips of the workers from 1;
-- place 0 is the journal's, and the others are labels
pub record Core : Type 0 where
  pub start : ComplexView
  pub owners : List ℕ
  pub pending : List (List Flip)
  pub journal : List JournalEntry

-- all places are free, nothing is pending, the journal is empty
abbrev pub opened : ComplexView → ℕ → ℕ → Core
opened start places workers = record { start = start; owners = replicate (places + 1) 0; pending = replicate workers []; journal = [] }

-- the greatest place, and the number of workers
abbrev pub places_of : Core → ℕ
places_of c = length c.owners - 1

abbrev pub workers_of : Core → ℕ
workers_of c = length c.pending

-- the workers have the numbers from 1
pub record IsWorker (c : Core) (worker : ℕ) : Type 0 where
  pub low : 0 < worker
  pub high : worker ≤ workers_of c

abbrev pub owner_of : Core → ℕ → ℕ
owner_of c place = get_or c.owners place 0

abbrev pub pending_of : Core → ℕ → List Flip
pending_of c worker = get_or c.pending (worker - 1) []

-- the same core, but for the owner of one place
abbrev pub with_owner : Core → ℕ → ℕ → Core
with_owner c place worker = record c { owners = set c.owners place worker }

-- the same core, but for the pending flips of one worker
abbrev pub with_pending : Core → ℕ → List Flip → Core
with_pending c worker flips = record c { pending = set c.pending (worker - 1) flips }

-- the end of a replay; the complex itself, where the replay has none
abbrev pub after : ComplexView → List Flip → ComplexView
after k flips = unwrap_or (replay k flips) k

-- the complex of the core: the start after the journal's flips
abbrev pub complex_of : Core → ComplexView
complex_of c = after c.start (flat c.journal)

-- what a worker sees: that complex after its own pending flips
abbrev pub seen_by : Core → ℕ → ComplexView
seen_by c worker = after (complex_of c) (pending_of c worker)

-- the entries of a worker, in order
abbrev pub of_worker : List JournalEntry → ℕ → List JournalEntry
of_worker entries worker = filter (λ e. nat_eq e.worker worker) entries

-- the journal, and each worker's list of pending flips, have at most so many members
pub record IsWithin (count : ℕ) (c : Core) : Type 0 where
  pub journal : length c.journal ≤ count
  pub pending : (worker : ℕ) → length (pending_of c worker) ≤ count
