-- Rounds: what a record of a round holds, and when it is right.
use Rattle.std.specs.Prelude.{◌≡◌, ◌≢◌, ◌⊎◌, ℕ, ◌+◌, ◌-◌, ◌<◌, true, List, map, length, Some, ◌*◌, pos, ◌≤ℤ◌, ◌≤◌}
use Rattle.std.specs.List.{AllByRecursion}
use mathlib.Core.Option.{some}
use lib.ListN.{get_elem?}
use Rattle.complex_core.specs.Complexes.{ComplexView}
use Rattle.flip_rules.specs.Flips.{replay}
use Rattle.flip_rules.specs.Entries.{JournalEntry}
use Rattle.flip_rules.specs.Journals.{flat, mine, At}
use Rattle.star_laws.specs.Stars.{flips_touch}
use Rattle.board_rule.specs.Rule.{IsEntry}
use Rattle.vertex_claims.specs.MarkLists.{MarkList}
use Rattle.vertex_claims.specs.declared.mark.Mark.{Mark}
use Rattle.vertex_claims.specs.declared.mark.Found.TheVariants.{Won}
use Rattle.round_rules.specs.Accounts.{Done}
use Rattle.round_rules.specs.Outcomes.{Outcomes, numbers_in, star_at}
use Rattle.round_rules.specs.Tasks.{Scene, task_at, turns_of, changes}
use Rattle.round_rules.specs.declared.tried.Tried.{Tried}
use Rattle.round_rules.specs.declared.tried.Tried.TheVariants.{Busy, NoMemory}

-- what contracts see of the record of a round: its number and its entries, and of each worker, from worker 1 on, the answers of its tries and its marks
pub record RoundView : Type 0 where
  pub round : ℕ
  pub entries : List JournalEntry
  pub tries : List (List Tried)
  pub marks : List MarkList

-- a worker had the place: a try of it won it, or won the place of flips that have it as a label
pub record Had (s : Scene) (r : RoundView) (w q : ℕ) : Type 0 where
  pub marks : MarkList
  pub is : get_elem? r.marks (w - 1) ≡ some marks
  pub number : ℕ
  pub mark : Mark
  pub here : get_elem? marks.list number ≡ some mark
  pub version : ℕ
  pub won : mark.found ≡ Won version
  pub rows : List (List ℕ)
  pub at : At s.start r.entries mark.place version rows
  pub place : (mark.place ≡ q) ⊎ (flips_touch q (turns_of (task_at s w number) (star_at s mark.place rows)) ≡ true)

-- the numbers count up from 0
abbrev pub CountUp : List ℕ → Type 0
CountUp xs = (k x : ℕ) → get_elem? xs k ≡ some x → x ≡ k

-- the tries of one worker
pub record WorkerOk (s : Scene) (r : RoundView) (w : ℕ) (marks : MarkList) (answers : List Tried) : Type 0 where
  -- they are its own, in this round
  pub worker : marks.worker ≡ w
  pub round_is : marks.round ≡ s.round
  -- all tries were made, or a quit is the last one, and none wanted memory
  pub done : Done s.plan.tries answers
  pub told : AllByRecursion (λ a. a ≢ NoMemory) answers
  -- each try was told its own words, and its mark and answer meet its outcome
  pub outcomes : Outcomes s r.entries w (task_at s w) 0 0 marks.list answers
  -- who was found at a place from 1 had it in a try
  pub busy : (t q o : ℕ) → get_elem? answers t ≡ some (Busy q o) → 0 < q → Had s r o q
  -- the committed tries are the entries of the worker, which count up from 0
  pub entries : map (λ e. e.seq) (mine r.entries s.round w) ≡ numbers_in answers
  pub count : CountUp (numbers_in answers)

-- a round from a complex to another one
pub record RoundOk (s : Scene) (r : RoundView) (end : ComplexView) : Type 0 where
  pub round_is : r.round ≡ s.round
  -- the flips of its entries, in order, are each legal where they stand, and lead to the end
  pub replays : replay s.start (flat r.entries) ≡ Some end
  -- there is one list of tries and one of marks for each worker
  pub tries : length r.tries ≡ s.plan.workers
  pub marks : length r.marks ≡ s.plan.workers
  pub workers : (w : ℕ) (marks : MarkList) (answers : List Tried) → 0 < w → get_elem? r.marks (w - 1) ≡ some marks → get_elem? r.tries (w - 1) ≡ some answers → WorkerOk s r w marks answers
  -- each entry is of the round and of one of its workers, and has 1 to 4 flips of faces, all labels of which are places
  pub entries : AllByRecursion (IsEntry s.round s.places (s.plan.workers + 1)) r.entries
  -- there are at most as many as tries, and each adds at most as many facets as the dimension
  pub few : length r.entries ≤ s.plan.workers * s.plan.tries
  pub gains : AllByRecursion (λ e. changes s.start.dim e.flips ≤ℤ pos s.start.dim) r.entries
