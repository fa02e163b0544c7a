-- What a try may answer in a round, judged by its mark and by beginnings of the round's journal.
use Rattle.std.specs.Prelude.{◌≡◌, ◌≢◌, ◌⊎◌, ℕ, suc, ◌+◌, ◌<◌, ◌≤◌, true, ℤ, ◌≤ℤ◌, ◌<ℤ◌, List, [], ◌∷◌, ◌++◌, length, Some, Err, ⊤}
use Rattle.complex_core.specs.Complexes.{ComplexView}
use Rattle.flip_rules.specs.Flips.{broken_rule, replay}
use Rattle.flip_rules.specs.Entries.{JournalEntry}
use Rattle.flip_rules.specs.Journals.{flat, mine, touches, At}
use Rattle.flip_rules.specs.declared.flip.Flip.{Flip}
use Rattle.flip_rules.specs.declared.flip.Illegal.TheVariants.{BIsFace}
use Rattle.star_laws.specs.Stars.{flips_touch}
use Rattle.stars.specs.StarViews.{VertexStar}
use Rattle.anneal_plan.specs.Proposals.{allowed_of}
use Rattle.vertex_claims.specs.declared.mark.Mark.{Mark}
use Rattle.vertex_claims.specs.declared.mark.Found.{Found}
use Rattle.vertex_claims.specs.declared.mark.Found.TheVariants.{Won, Lost}
use Rattle.round_rules.specs.Tasks.{Task, Scene, place_of, turns_of}
use Rattle.round_rules.specs.Rows.{Row}
use Rattle.round_rules.specs.declared.tried.Tried.{Tried}
use Rattle.round_rules.specs.declared.tried.Tried.TheVariants.{Committed, Busy, Nothing, Blocked, Declined, Quit, NoMemory}

-- the star of a place, from its facets
abbrev pub star_at : Scene → ℕ → List (List ℕ) → VertexStar
star_at s p rows = record { vertex = p; dim = s.start.dim; rows = rows }

-- ---- beginnings of the journal

-- a beginning of the entries in which so many touch the place, and which has so many of the worker's
pub record Beginning (s : Scene) (entries : List JournalEntry) (w earlier p version : ℕ) (before : List JournalEntry) : Type 0 where
  pub next : List JournalEntry
  pub whole : entries ≡ before ++ next
  pub touched : touches before p ≡ version
  pub own : length (mine before s.round w) ≡ earlier

-- after such a beginning the flips are legal in order
pub record LegalAfter (s : Scene) (entries : List JournalEntry) (w earlier p version : ℕ) (flips : List Flip) : Type 0 where
  pub before : List JournalEntry
  pub beginning : Beginning s entries w earlier p version before
  pub there : ComplexView
  pub end : ComplexView
  pub history : replay s.start (flat before) ≡ Some there
  pub replays : replay there flips ≡ Some end

-- after such a beginning the flips are legal in order, and then B of the next one is a face
pub record BlockedAfter (s : Scene) (entries : List JournalEntry) (w earlier p version : ℕ) (flips : List Flip) (f : Flip) : Type 0 where
  pub legal : LegalAfter s entries w earlier p version flips
  pub face : broken_rule legal.end f.a f.b ≡ Err BIsFace

-- the flips are an entry with this number, and the journal before it is such a beginning
pub record EntersAfter (s : Scene) (entries : List JournalEntry) (w earlier p version n : ℕ) (flips : List Flip) : Type 0 where
  pub before : List JournalEntry
  pub next : List JournalEntry
  pub whole : entries ≡ before ++ (record { round = s.round; worker = w; seq = n; flips = flips } ∷ next)
  pub beginning : Beginning s entries w earlier p version before

-- ---- what a try may answer

-- the row of an answer, for the flips that the try proposes
abbrev pub RowAfter : Scene → List JournalEntry → ℕ → Task → ℕ → ℕ → Mark → List Flip → Tried → Type 0
RowAfter s entries w task earlier version m =
    Row (LegalAfter s entries w earlier m.place version) (BlockedAfter s entries w earlier m.place version) (EntersAfter s entries w earlier m.place version) task m

-- the answer of a try without a flip
abbrev pub Idle : Tried → Type 0
Idle a = (a ≡ Nothing) ⊎ (a ≡ Quit)

-- a try that won its place at a version: its flips are proposed at the star that the place had then
pub record WonRow (s : Scene) (entries : List JournalEntry) (w : ℕ) (task : Task) (earlier version : ℕ) (m : Mark) (a : Tried) : Type 0 where
  pub rows : List (List ℕ)
  pub at : At s.start entries m.place version rows
  pub before : List JournalEntry
  pub beginning : Beginning s entries w earlier m.place version before
  pub idle : turns_of task (star_at s m.place rows) ≡ [] → Idle a
  pub row : RowAfter s entries w task earlier version m (turns_of task (star_at s m.place rows)) a

-- what it may answer, by what its first claim found
abbrev pub Judges : Scene → List JournalEntry → ℕ → Task → ℕ → Mark → Tried → Found → Type 0
Judges s entries w task earlier m a (Won version) = WonRow s entries w task earlier version m a
Judges s entries w task earlier m a (Lost o) = a ≡ Busy m.place o

-- another worker of the round
pub record IsOther (s : Scene) (w o : ℕ) : Type 0 where
  pub low : 0 < o
  pub high : o ≤ s.plan.workers
  pub other : o ≢ w

-- what a try of worker w may answer, who has so many entries of earlier tries
pub record Outcome (s : Scene) (entries : List JournalEntry) (w : ℕ) (task : Task) (earlier : ℕ) (m : Mark) (a : Tried) : Type 0 where
  pub place : m.place ≡ place_of task
  pub judged : Judges s entries w task earlier m a m.found
  pub busy : (q o : ℕ) → a ≡ Busy q o → IsOther s w o

-- ---- all tries of a worker

-- one entry for a committed try
abbrev pub entries_in : Tried → ℕ
entries_in (Committed n) = 1
entries_in (Busy q o) = 0
entries_in Nothing = 0
entries_in (Blocked f) = 0
entries_in (Declined c) = 0
entries_in Quit = 0
entries_in NoMemory = 0

-- the numbers of the entries, in order
abbrev pub numbers_in : List Tried → List ℕ
numbers_in [] = []
numbers_in (Committed n ∷ rest) = n ∷ numbers_in rest
numbers_in (Busy q o ∷ rest) = numbers_in rest
numbers_in (Nothing ∷ rest) = numbers_in rest
numbers_in (Blocked f ∷ rest) = numbers_in rest
numbers_in (Declined c ∷ rest) = numbers_in rest
numbers_in (Quit ∷ rest) = numbers_in rest
numbers_in (NoMemory ∷ rest) = numbers_in rest

-- marks and answers from try t on, in order: mark t is of try t, and a quit at the end may have no mark
abbrev pub Outcomes : Scene → List JournalEntry → ℕ → (ℕ → Task) → ℕ → ℕ → List Mark → List Tried → Type 0
Outcomes s entries w tasks t earlier [] [] = ⊤
Outcomes s entries w tasks t earlier [] (a ∷ rest) = (a ≡ Quit) × (rest ≡ [])
Outcomes s entries w tasks t earlier (m ∷ ms) [] = ⊥
Outcomes s entries w tasks t earlier (m ∷ ms) (a ∷ rest) = Outcome s entries w (tasks t) earlier m a × Outcomes s entries w tasks (suc t) (earlier + entries_in a) ms rest
