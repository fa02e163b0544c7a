-- Reports of searches: descents and rounds, one after another.
use Rattle.std.specs.Prelude.{◌≡◌, ℕ, ◌+◌, ◌≤◌, List, [], ◌∷◌, ◌++◌, length}
use Rattle.std.specs.List.{AllByRecursion}
use Rattle.complex_core.specs.Maps.{renamed, names_of, turned}
use Rattle.complex_core.specs.Complexes.{ComplexView}
use Rattle.flip_rules.specs.Boundaries.{IsBoundary}
use Rattle.flip_rules.specs.Entries.{JournalEntry}
use Rattle.flip_rules.specs.declared.flip.Flip.{Flip}
use Rattle.descent_laws.specs.Descents.{IsDescent}
use Rattle.anneal_plan.specs.Numbers.{Numbers}
use Rattle.round_rules.specs.Rounds.{RoundView, RoundOk}
use Rattle.round_rules.specs.Tasks.{Scene}

-- what contracts see of a report: the complex as it was given, the labels that its places stand for, the descents and the records of the rounds on the places, and the complex on the places at the end
pub record ReportView : Type 0 where
  pub input : ComplexView
  pub names : List (ℕ × ℕ)
  pub descents : List (List Flip)
  pub rounds : List RoundView
  pub end : ComplexView

abbrev pub scene : ComplexView → ℕ → ℕ → Numbers → Scene
scene start places round plan = record { start = start; places = places; round = round; plan = plan }

-- descent, round, descent, .. from a complex to an end, where the first round has this number and the descents end in these complexes: there is one descent more than there are rounds, or there are neither
abbrev pub Chain : Numbers → ℕ → ℕ → ComplexView → List (List Flip) → List ComplexView → List RoundView → ComplexView → Type 0
Chain plan places n k [] [] [] end = end ≡ k
Chain plan places n k [] [] (r ∷ rs) end = ⊥
Chain plan places n k [] (low ∷ lows) rs end = ⊥
Chain plan places n k (d ∷ ds) [] rs end = ⊥
Chain plan places n k (d ∷ ds) (low ∷ lows) [] end = IsDescent k d low × (end ≡ low) × (ds ≡ []) × (lows ≡ [])
Chain plan places n k (d ∷ ds) (low ∷ lows) (r ∷ rs) end = (next : ComplexView) × IsDescent k d low × RoundOk (scene low places n plan) r next × (length ds ≡ length rs + 1) × Chain plan places (n + 1) next ds lows rs end

-- the report of a search from this complex by this plan
pub record ReportOk (given : ComplexView) (plan : Numbers) (r : ReportView) : Type 0 where
  pub input : r.input ≡ given
  pub names : r.names ≡ names_of given.facets plan.room
  pub few : length r.rounds ≤ plan.rounds
  -- the complexes in which the descents ended
  pub lows : List ComplexView
  pub chain : Chain plan (length r.names) 0 (renamed given (turned r.names)) r.descents lows r.rounds r.end

-- ---- the history of a report

-- the flips of a descent, counted from k, as entries of worker 0 with one flip each
abbrev pub descent_entries : ℕ → ℕ → List Flip → List JournalEntry
descent_entries round k [] = []
descent_entries round k (f ∷ fs) = record { round = round; worker = 0; seq = k; flips = f ∷ [] } ∷ descent_entries round (k + 1) fs

-- descent, round, descent, .. from the round with this number on
abbrev pub history_from : ℕ → List (List Flip) → List RoundView → List JournalEntry
history_from n [] rs = []
history_from n (d ∷ ds) [] = descent_entries n 0 d ++ history_from (n + 1) ds []
history_from n (d ∷ ds) (r ∷ rs) = descent_entries n 0 d ++ (r.entries ++ history_from (n + 1) ds rs)

-- all entries of a report, in order
abbrev pub history : ReportView → List JournalEntry
history r = history_from 0 r.descents r.rounds

-- ---- what a sphere search found

abbrev pub IsElsewhere : ComplexView → Type 0
IsElsewhere k = IsBoundary k → ⊥

-- the last descent ended in the boundary of a simplex, and none before it
pub record IsSphere (given : ComplexView) (plan : Numbers) (r : ReportView) : Type 0 where
  pub ok : ReportOk given plan r
  pub earlier : List ComplexView
  pub ends : ok.lows ≡ earlier ++ r.end ∷ []
  pub boundary : IsBoundary r.end
  pub first : AllByRecursion IsElsewhere earlier

-- all rounds were made, with a descent before each and one behind the last
pub record IsSpent (plan : Numbers) (r : ReportView) : Type 0 where
  pub rounds : length r.rounds ≡ plan.rounds
  pub descents : length r.descents ≡ plan.rounds + 1

-- all rounds were made, and no descent ended in the boundary of a simplex
pub record IsUndecided (given : ComplexView) (plan : Numbers) (r : ReportView) : Type 0 where
  pub ok : ReportOk given plan r
  pub spent : IsSpent plan r
  pub none : AllByRecursion IsElsewhere ok.lows
