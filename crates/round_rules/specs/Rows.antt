-- The rows of what a try answers, for the flips that it proposes. They are read twice: of the note that a pass keeps of the try, and of its mark with
-- beginnings of a round's journal. The two differ in what it is for flips to be legal, for one of them to be blocked, and to be an entry.
use Rattle.std.specs.Prelude.{◌≡◌, ◌≢◌, ℕ, ◌<◌, true, ℤ, ◌≤ℤ◌, ◌<ℤ◌, List, [], ◌∷◌, ◌++◌, ⊤}
use Rattle.flip_rules.specs.declared.flip.Flip.{Flip}
use Rattle.star_laws.specs.Stars.{flips_touch}
use Rattle.board_rule.specs.Tries.{Unrefused}
use Rattle.anneal_plan.specs.Proposals.{allowed_of}
use Rattle.vertex_claims.specs.declared.mark.Mark.{Mark}
use Rattle.round_rules.specs.Tasks.{Task, changes}
use Rattle.round_rules.specs.declared.tried.Tried.{Tried}
use Rattle.round_rules.specs.declared.tried.Tried.TheVariants.{Committed, Busy, Nothing, Blocked, Declined, Quit, NoMemory}

-- one later claim was refused, at another place, which is a label of the flips
pub record VertexRefused (m : Mark) (q : ℕ) (flips : List Flip) : Type 0 where
  pub other : q ≢ m.place
  pub label : flips_touch q flips ≡ true
  pub vertices : m.vertices ≡ 1
  pub journal : m.journal ≡ 0

-- the flips might have been committed, but place 0 was refused 64 times
pub record JournalRefused (Legal : List Flip → Type 0) (task : Task) (m : Mark) (flips : List Flip) : Type 0 where
  pub some : flips ≢ []
  pub allowed : changes task.dim flips ≤ℤ allowed_of task.dim task.phase
  pub legal : Legal flips
  pub vertices : m.vertices ≡ 0
  pub journal : m.journal ≡ 64

-- another worker had the place
pub record BusyRow (Legal : List Flip → Type 0) (task : Task) (m : Mark) (q o : ℕ) (flips : List Flip) : Type 0 where
  pub last : m.last ≡ q
  pub owner : m.owner ≡ o
  pub vertex : 0 < q → VertexRefused m q flips
  pub journal : q ≡ 0 → JournalRefused Legal task m flips

-- the flips before one of them are legal, and then its B is a face
pub record BlockedRow (IsBlocked : List Flip → Flip → Type 0) (m : Mark) (f : Flip) (flips : List Flip) : Type 0 where
  pub front : List Flip
  pub rest : List Flip
  pub member : flips ≡ front ++ f ∷ rest
  pub blocked : IsBlocked front f
  pub unrefused : Unrefused m.vertices m.journal

-- the flips are legal, and make too many facets
pub record DeclinedRow (Legal : List Flip → Type 0) (task : Task) (m : Mark) (c : ℤ) (flips : List Flip) : Type 0 where
  pub some : flips ≢ []
  pub legal : Legal flips
  pub sum : c ≡ changes task.dim flips
  pub above : allowed_of task.dim task.phase <ℤ c
  pub unrefused : Unrefused m.vertices m.journal

-- the flips are an entry
pub record CommittedRow (IsEntered : Type 0) (task : Task) (m : Mark) (flips : List Flip) : Type 0 where
  pub some : flips ≢ []
  pub allowed : changes task.dim flips ≤ℤ allowed_of task.dim task.phase
  pub entered : IsEntered
  pub vertices : m.vertices ≡ 0
  pub journal : m.journal < 64

-- memory was wanted for one of the flips, which is legal after those before it, or for their entry
pub record WantedRow (Legal : List Flip → Type 0) (m : Mark) (flips : List Flip) : Type 0 where
  pub front : List Flip
  pub rest : List Flip
  pub some : front ≢ []
  pub first : flips ≡ front ++ rest
  pub legal : Legal front
  pub vertices : m.vertices ≡ 0
  pub journal : m.journal < 64

-- the row of an answer
abbrev pub Row : (List Flip → Type 0) → (List Flip → Flip → Type 0) → (ℕ → List Flip → Type 0) → Task → Mark → List Flip → Tried → Type 0
Row Legal IsBlocked IsEntered task m flips (Committed n) = CommittedRow (IsEntered n flips) task m flips
Row Legal IsBlocked IsEntered task m flips (Busy q o) = BusyRow Legal task m q o flips
Row Legal IsBlocked IsEntered task m flips Nothing = (flips ≡ []) × Unrefused m.vertices m.journal
Row Legal IsBlocked IsEntered task m flips (Blocked f) = BlockedRow IsBlocked m f flips
Row Legal IsBlocked IsEntered task m flips (Declined c) = DeclinedRow Legal task m c flips
Row Legal IsBlocked IsEntered task m flips Quit = ⊤
Row Legal IsBlocked IsEntered task m flips NoMemory = WantedRow Legal m flips
