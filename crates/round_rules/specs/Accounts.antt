-- What a worker says of all of its tries.
use Rattle.std.specs.Prelude.{◌≡◌, ◌≢◌, ◌⊎◌, ℕ, ◌+◌, ◌≤◌, List, [], ◌∷◌, ◌++◌, length}
use Rattle.std.specs.List.{AllByRecursion}
use Rattle.flip_rules.specs.Entries.{JournalEntry}
use Rattle.board_rule.specs.Tries.{Try}
use Rattle.round_rules.specs.Own.{OwnTry}
use Rattle.round_rules.specs.Tasks.{Task}
use Rattle.round_rules.specs.declared.tried.Tried.{Tried}
use Rattle.round_rules.specs.declared.tried.Tried.TheVariants.{Committed, Busy, Nothing, Blocked, Declined, Quit, NoMemory}

-- answers and entries, of which the last try added one answer
pub record Grown (Before : List Tried → List JournalEntry → Type 0) (One : List JournalEntry → Tried → Type 0) (answers : List Tried) : Type 0 where
  pub was : List JournalEntry
  pub earlier : List Tried
  pub last : Tried
  pub all : answers ≡ earlier ++ last ∷ []
  pub before : Before earlier was
  pub one : One was last

-- the answers, in order, and the entries of a worker after these tries, of which the latest comes first; try t, counted from 0, was told task t
abbrev pub OwnRun : (ℕ → Task) → ℕ → ℕ → List Try → List Tried → List JournalEntry → Type 0
OwnRun tasks round w [] answers mine = (answers ≡ []) × (mine ≡ [])
OwnRun tasks round w (t ∷ ts) answers mine = Grown (OwnRun tasks round w ts) (λ was a. OwnTry (tasks (length ts)) round w t was mine a) answers

-- the last answer is a quit of a try that had not begun
pub record Stopped (tasks : ℕ → Task) (round w : ℕ) (tries : List Try) (answers : List Tried) (mine : List JournalEntry) : Type 0 where
  pub earlier : List Tried
  pub all : answers ≡ earlier ++ Quit ∷ []
  pub before : OwnRun tasks round w tries earlier mine

-- all answers of a worker
abbrev pub OwnAll : (ℕ → Task) → ℕ → ℕ → List Try → List Tried → List JournalEntry → Type 0
OwnAll tasks round w tries answers mine = OwnRun tasks round w tries answers mine ⊎ Stopped tasks round w tries answers mine

-- the try didn't end its worker
abbrev pub GoesOn : Tried → Type 0
GoesOn a = (a ≢ Quit) × (a ≢ NoMemory)

-- the last answer is this one
pub record EndsIn (last : Tried) (answers : List Tried) : Type 0 where
  pub earlier : List Tried
  pub all : answers ≡ earlier ++ last ∷ []
  pub calm : AllByRecursion GoesOn earlier

-- a worker made all of its tries, or stopped after a quit or want of memory
pub record Done (tries : ℕ) (answers : List Tried) : Type 0 where
  pub few : length answers ≤ tries
  pub ends : ((length answers ≡ tries) × AllByRecursion GoesOn answers) ⊎ EndsIn Quit answers ⊎ EndsIn NoMemory answers

-- how many of the answers are quits
abbrev pub quits : List Tried → ℕ
quits [] = 0
quits (Quit ∷ rest) = 1 + quits rest
quits (Committed s ∷ rest) = quits rest
quits (Busy q o ∷ rest) = quits rest
quits (Nothing ∷ rest) = quits rest
quits (Blocked f ∷ rest) = quits rest
quits (Declined c ∷ rest) = quits rest
quits (NoMemory ∷ rest) = quits rest
