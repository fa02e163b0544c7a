-- What a worker says of one of its own tries, by the note that the pass keeps of it.
use Rattle.std.specs.Prelude.{◌≡◌, ◌⊎◌, ℕ, true, false, List, [], ◌∷◌, ◌++◌, length, Err, Some, ⊤}
use mathlib.Core.Option.{some}
use Rattle.complex_core.specs.Complexes.{ComplexView, IsComplex}
use Rattle.flip_rules.specs.Flips.{broken_rule, replay}
use Rattle.flip_rules.specs.Entries.{JournalEntry}
use Rattle.flip_rules.specs.declared.flip.Flip.{Flip}
use Rattle.flip_rules.specs.declared.flip.Illegal.TheVariants.{BIsFace}
use Rattle.star_laws.specs.Stars.{flips_touch, LabelsPass}
use Rattle.board_rule.specs.Items.{item, has_item}
use Rattle.board_rule.specs.Plays.{IsRefused}
use Rattle.board_rule.specs.Tries.{Try}
use Rattle.board_rule.specs.Views.{star_in}
use Rattle.board_rule.specs.Homes.{VersionedStar}
use Rattle.vertex_claims.specs.Marks.{mark_of}
use Rattle.round_rules.specs.Tasks.{Task, place_of, turns_of}
use Rattle.round_rules.specs.Rows.{Row}
use Rattle.round_rules.specs.declared.tried.Tried.{Tried}
use Rattle.round_rules.specs.declared.tried.Tried.TheVariants.{Committed, Busy}

-- a complex of this dimension that has the noted stars
pub record HasStars (d : ℕ) (note : List (ℕ × VersionedStar)) (k : ComplexView) : Type 0 where
  pub complex : IsComplex k
  pub dim : k.dim ≡ d
  pub stars : (p : ℕ) (x : VersionedStar) → item note p ≡ some x → x.star ≡ star_in k p

-- on the noted stars the flips are legal in order: their labels are noted, and they replay on a complex that has these stars
pub record ReplaysOn (d : ℕ) (note : List (ℕ × VersionedStar)) (flips : List Flip) : Type 0 where
  pub complex : ComplexView
  pub end : ComplexView
  pub stars : HasStars d note complex
  pub labels : LabelsPass (has_item note) flips
  pub replays : replay complex flips ≡ Some end

-- on the noted stars the flips are legal in order, and then B of the next one, whose labels are noted, is a face
pub record BlockedOn (d : ℕ) (note : List (ℕ × VersionedStar)) (flips : List Flip) (f : Flip) : Type 0 where
  pub legal : ReplaysOn d note flips
  pub labels : LabelsPass (has_item note) (f ∷ [])
  pub face : broken_rule legal.end f.a f.b ≡ Err BIsFace

-- the flips are the next entry of the worker, with its number
pub record EntersNext (round w : ℕ) (was now : List JournalEntry) (n : ℕ) (flips : List Flip) : Type 0 where
  pub number : n ≡ length was
  pub entry : now ≡ was ++ record { round = round; worker = w; seq = n; flips = flips } ∷ []

-- a refused claim was refused by another worker
abbrev pub OtherRefused : ℕ → Tried → Type 0
OtherRefused w (Busy q o) = IsRefused w o
OtherRefused w other = ⊤

-- no other answer adds an entry
abbrev pub Stays : List JournalEntry → List JournalEntry → Tried → Type 0
Stays was now (Committed n) = ⊤
Stays was now other = now ≡ was

-- the row of an answer: of a try, with the flips that it proposes, and the entries of the worker before it and after it
abbrev pub OwnRow : Task → ℕ → ℕ → Try → List JournalEntry → List JournalEntry → List Flip → Tried → Type 0
OwnRow task round w t was now flips a =
    Row (ReplaysOn task.dim t.note) (BlockedOn task.dim t.note) (EntersNext round w was now) task (mark_of t) flips a × OtherRefused w a × Stays was now a

-- a try whose first claim was won, at a star with a version: what it noted beside its own place are labels of its flips
pub record WonOwn (task : Task) (round w : ℕ) (t : Try) (was now : List JournalEntry) (a : Tried) : Type 0 where
  pub home : VersionedStar
  pub first : item t.note t.place ≡ some home
  pub version : home.version ≡ t.found
  pub among : (q : ℕ) → has_item t.note q ≡ true → (q ≡ t.place) ⊎ (flips_touch q (turns_of task home.star) ≡ true)
  pub row : OwnRow task round w t was now (turns_of task home.star) a

-- one try of worker w in a round, with the entries of the worker before it and after it, and its answer
pub record OwnTry (task : Task) (round w : ℕ) (t : Try) (was now : List JournalEntry) (a : Tried) : Type 0 where
  pub place : t.place ≡ place_of task
  pub count : t.count ≡ length was
  pub lost : t.won ≡ false → (a ≡ Busy t.place t.found) × IsRefused w t.found × (now ≡ was)
  pub won : t.won ≡ true → WonOwn task round w t was now a
