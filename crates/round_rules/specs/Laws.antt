-- Laws: the journal of a closed board and what the workers say of their own tries judge all tries of a round; where a round leads.
use Rattle.std.specs.Prelude.{◌≡◌, ◌≢◌, ◌⊎◌, ℕ, ◌+◌, ◌-◌, ◌*◌, ◌<◌, ◌≤◌, ◌≤ℤ◌, List, [], length}
use Rattle.std.specs.List.{AllByRecursion}
use mathlib.Core.Option.{some}
use lib.ListN.{get_elem?}
use Rattle.complex_core.specs.Complexes.{ComplexView, IsComplex}
use Rattle.flip_rules.specs.Entries.{JournalEntry}
use Rattle.flip_rules.specs.Journals.{At}
use Rattle.flip_rules.specs.declared.flip.Flip.{Flip}
use Rattle.stars.specs.StarViews.{StarList, IsStarListOf, UsesUpTo}
use Rattle.anneal_plan.specs.Proposals.{allowed_of}
use Rattle.board_rule.specs.Tries.{Unrefused}
use Rattle.board_rule.specs.declared.setup.Setup.{Setup}
use Rattle.board_rule.specs.declared.kept.Kept.{Kept}
use Rattle.board_rule.specs.declared.view.MainView.{MainView}
use Rattle.vertex_claims.specs.Ended.{IsEnd}
use Rattle.vertex_claims.specs.MarkLists.{MarkList}
use Rattle.vertex_claims.specs.Marks.{marks_of}
use Rattle.vertex_claims.specs.declared.mark.Mark.{Mark}
use Rattle.vertex_claims.specs.declared.mark.Found.TheVariants.{Won}
use Rattle.round_rules.specs.Accounts.{OwnAll, Done}
use Rattle.round_rules.specs.Rows.{BlockedRow}
use Rattle.round_rules.specs.Outcomes.{Outcome, BlockedAfter, star_at}
use Rattle.round_rules.specs.Rounds.{RoundView, RoundOk}
use Rattle.round_rules.specs.Tasks.{Scene, Task, task_at, turns_of, changes}
use Rattle.round_rules.specs.declared.tried.Tried.{Tried}
use Rattle.round_rules.specs.declared.tried.Tried.TheVariants.{Committed, Quit, NoMemory}

-- the board was that of the round
pub record IsBoardOf (s : Scene) (setup : Setup) (c : MainView) : Type 0 where
  pub start : setup.start.value ≡ s.start
  pub complex : IsComplex s.start
  pub places : setup.places ≡ s.places
  pub round_is : setup.round ≡ s.round
  pub workers : length c.back ≡ s.plan.workers + 1

-- what main kept of a worker, and what the worker says of its own tries
pub record IsAccount (s : Scene) (c : MainView) (w : ℕ) (marks : MarkList) (answers : List Tried) : Type 0 where
  pub kept : Kept
  pub is : get_elem? c.back w ≡ some kept
  pub worker : marks.worker ≡ w
  pub round_is : marks.round ≡ s.round
  pub list : marks.list ≡ marks_of kept.tries
  pub own : OwnAll (task_at s w) s.round w kept.tries answers kept.mine
  pub done : Done s.plan.tries answers
  pub told : AllByRecursion (λ a. a ≢ NoMemory) answers

-- what is known of a round when its board was closed
pub record IsGathered (s : Scene) (setup : Setup) (c : MainView) (r : RoundView) (stars : StarList) : Type 0 where
  pub board : IsBoardOf s setup c
  pub closed : IsEnd setup c r.entries stars
  pub round_is : r.round ≡ s.round
  pub tries : length r.tries ≡ s.plan.workers
  pub marks : length r.marks ≡ s.plan.workers
  pub accounts : (w : ℕ) (marks : MarkList) (answers : List Tried) → 0 < w → get_elem? r.marks (w - 1) ≡ some marks → get_elem? r.tries (w - 1) ≡ some answers → IsAccount s c w marks answers

-- then the round is right, and its end is the complex with the stars that the board had
abbrev pub RoundLaw : Type 0
RoundLaw = (s : Scene) (setup : Setup) (c : MainView) (r : RoundView) (stars : StarList) (end : ComplexView) → IsGathered s setup c r stars → IsStarListOf end stars → RoundOk s r end

-- where a right round starts with a complex on its places, its end is one too, of the same dimension
abbrev pub RoundReplays : Type 0
RoundReplays = (s : Scene) (r : RoundView) (end : ComplexView) → IsComplex s.start → UsesUpTo s.start s.places → RoundOk s r end → IsComplex end × (end.dim ≡ s.start.dim) × UsesUpTo end s.places

-- it has at most so many facets more as the dimension, for each entry
abbrev pub RoundGrows : Type 0
RoundGrows = (s : Scene) (r : RoundView) (end : ComplexView) → IsComplex s.start → RoundOk s r end → length end.facets ≤ length s.start.facets + s.start.dim * length r.entries

-- a try that won its place, of which no later claim was refused, with flips that its phase allows and of which none is blocked after any such beginning, commits, unless it quits or wants memory
abbrev pub TryCommits : Type 0
TryCommits = (s : Scene) (entries : List JournalEntry) (w : ℕ) (task : Task) (earlier version : ℕ) (m : Mark) (a : Tried) (rows : List (List ℕ)) →
    Outcome s entries w task earlier m a → m.found ≡ Won version → At s.start entries m.place version rows → Unrefused m.vertices m.journal
    → turns_of task (star_at s m.place rows) ≢ []
    → changes task.dim (turns_of task (star_at s m.place rows)) ≤ℤ allowed_of task.dim task.phase
    → ((f : Flip) → BlockedRow (BlockedAfter s entries w earlier m.place version) m f (turns_of task (star_at s m.place rows)) → ⊥)
    → a ≢ Quit → ((n : ℕ) × (a ≡ Committed n)) ⊎ (a ≡ NoMemory)
