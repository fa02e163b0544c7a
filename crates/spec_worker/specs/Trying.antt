-- A try while it runs.
use Rattle.std.specs.Prelude.{◌≡◌, ℕ, ◌+◌, ◌*◌, ◌<◌, ◌≤◌, true, false, List, [], ◌∷◌, ◌++◌, length, ⊤}
use Rattle.complex_core.specs.Complexes.{ComplexView}
use Rattle.flip_rules.specs.declared.flip.Flip.{Flip}
use Rattle.stars.specs.StarViews.{shown}
use Rattle.board_rule.specs.Tries.{Try}
use Rattle.board_rule.specs.Views.{star_in}
use Rattle.anneal_plan.specs.Fits.{FitsStar}
use Rattle.anneal_plan.specs.Turns.{after_flips, turn_count}
use Rattle.vertex_claims.specs.Passes.{know}
use Rattle.vertex_claims.specs.declared.pass.Pass.{Pass}
use Rattle.held_stars.specs.Holding.{StartedTry, Noting, Going, Made, Restorable, Settles}
use Rattle.held_stars.specs.declared.hold.Hold.{Hold}
use Rattle.vertex_claims.specs.Marks.{mark_of}
use Rattle.round_rules.specs.Rows.{CommittedRow, Row}
use Rattle.round_rules.specs.Own.{ReplaysOn, BlockedOn, EntersNext, OtherRefused}
use Rattle.round_rules.specs.Tasks.{Task, place_of, turns_of}
use Rattle.round_rules.specs.declared.tried.Tried.{Tried}
use Rattle.spec_worker.specs.Workers.{ArePlaces}
use Rattle.spec_worker.specs.declared.turning.TryPlan.{TryPlan}
use Rattle.round_rules.specs.declared.tried.Tried.TheVariants.{Committed, Busy, Nothing, Blocked, Declined, Quit, NoMemory}

-- the story is that of the task: it begins at the task's place, and may claim the labels of the flips that the task proposes at the star found there
pub record IsStartOf (task : Task) (s : StartedTry) : Type 0 where
  pub place : s.place ≡ place_of task
  pub dim : s.dim ≡ task.dim
  pub flips : s.flips ≡ turns_of task s.home.star

-- this is what the order tells: the task, in this dimension
pub record IsTold (o : TryPlan) (dim : ℕ) (task : Task) : Type 0 where
  pub dim_is : task.dim ≡ dim
  pub place : place_of task ≡ o.place
  pub phase : task.phase ≡ o.phase
  pub words : task.words ≡ o.words.now
  pub free : task.free ≡ o.free.now
  pub count : turn_count task.words task.depth ≡ o.count

-- its numbers fit a board with so many places, and for some depth its words choose its count
pub record IsFit (o : TryPlan) (places : ℕ) : Type 0 where
  pub place : (0 < o.place) × (o.place ≤ places)
  pub free : ArePlaces o.free.now places
  pub count : (1 ≤ o.count) × (o.count ≤ 4)
  pub depth : (depth : ℕ) × (turn_count o.words.now depth ≡ o.count)

-- some turns were made, and these flips are still to come
pub record Turned (s : StartedTry) (pass : Pass) (h : Hold) (rest : List Flip) : Type 0 where
  pub going : Going s (know pass)
  pub now : ComplexView
  pub made : Made pass h now
  pub whole : s.flips ≡ h.flips.items ++ rest
  pub star : star_in now s.place ≡ after_flips s.home.star h.flips.items
  pub lent : length h.lent.items ≤ 1 + 8 * length h.flips.items

-- this flip is to be made next: it fits the star as the flips before it have left it
pub record IsNext (s : StartedTry) (dim : ℕ) (pass : Pass) (h : Hold) (f : Flip) (next : List Flip) : Type 0 where
  pub turned : Turned s pass h (f ∷ next)
  pub dim_is : s.dim ≡ dim
  pub free : List ℕ
  pub fits : FitsStar (after_flips s.home.star h.flips.items) free f

-- what the note of a try has of why it ended without an entry
abbrev pub Cause : Task → StartedTry → Try → Tried → Type 0
Cause task s t a = Row (ReplaysOn task.dim t.note) (BlockedOn task.dim t.note) (λ n flips. ⊥) task (mark_of t) s.flips a × OtherRefused s.worker a

-- it ended without an entry, and the flips that it made can be taken back
pub record Ended (task : Task) (s : StartedTry) (pass : Pass) (h : Hold) (a : Tried) : Type 0 where
  pub try_now : Try
  pub noting : Noting s (know pass) try_now
  pub mine : (know pass).mine ≡ s.mine
  pub reason : Cause task s try_now a
  pub restorable : Restorable pass h

-- its flips were committed as the entry with this number, and the stars that are lent are known as they are now, but for their versions
pub record Entered (task : Task) (round : ℕ) (s : StartedTry) (pass : Pass) (h : Hold) (n : ℕ) : Type 0 where
  pub try_now : Try
  pub noting : Noting s (know pass) try_now
  pub row : CommittedRow (EntersNext round s.worker s.mine (know pass).mine n s.flips) task (mark_of try_now) s.flips
  pub flips : h.flips.items ≡ s.flips
  pub settles : Settles pass h.flips.items (shown h.lent.items)
  pub free : (know pass).has_journal ≡ false
