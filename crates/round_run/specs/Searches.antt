-- What a search has made so far.
use Rattle.std.specs.Prelude.{◌≡◌, ℕ, ◌≤◌, List, [], ◌∷◌, ◌++◌, length}
use Rattle.std.specs.List.{AllByRecursion}
use Rattle.complex_core.specs.Maps.{renamed, turned}
use Rattle.complex_core.specs.Complexes.{ComplexView}
use Rattle.flip_names.specs.Laws.{Renames}
use Rattle.anneal_plan.specs.Numbers.{Numbers}
use Rattle.round_rules.specs.Rounds.{RoundView}
use Rattle.round_run.specs.Gates.{Rise, quits_at}
use Rattle.round_run.specs.Reports.{ReportView, ReportOk, IsElsewhere}

-- the places of a search from a complex of dimension at least 1: there are few, and every label of the complex on the places has a name
pub record IsPlaced (given : ComplexView) (r : ReportView) : Type 0 where
  pub dim : 1 ≤ given.dim
  pub start : Renames r.names (renamed given (turned r.names))
  pub few : length r.names ≤ 65535

-- a search from this complex begins, and nothing was made yet
pub record IsOpened (given : ComplexView) (plan : Numbers) (r : ReportView) : Type 0 where
  pub placed : IsPlaced given r
  pub ok : ReportOk given plan r
  pub descents : r.descents ≡ []
  pub rounds : r.rounds ≡ []

-- it stands behind a descent, and those before this one ended in these complexes
pub record Stands (given : ComplexView) (plan : Numbers) (earlier : List ComplexView) (r : ReportView) : Type 0 where
  pub placed : IsPlaced given r
  pub ok : ReportOk given plan r
  pub ends : ok.lows ≡ earlier ++ r.end ∷ []

abbrev pub StandsSomewhere : ComplexView → Numbers → ReportView → Type 0
StandsSomewhere given plan r = (earlier : List ComplexView) × Stands given plan earlier r

-- descent 0 was made
pub record Descended (plan : Numbers) (before after : ReportView) : Type 0 where
  pub stands : (given : ComplexView) → IsOpened given plan before → Stands given plan [] after
  pub rounds : after.rounds ≡ []

-- one round more was made, and one descent behind it
abbrev pub Advanced : Numbers → ReportView → ReportView → Type 0
Advanced plan before after = (given : ComplexView) (earlier : List ComplexView) → Stands given plan earlier before → Stands given plan (earlier ++ before.end ∷ []) after

-- no descent before the last one ended in the boundary of a simplex
pub record IsSeeking (given : ComplexView) (plan : Numbers) (r : ReportView) : Type 0 where
  pub earlier : List ComplexView
  pub stands : Stands given plan earlier r
  pub first : AllByRecursion IsElsewhere earlier

-- one round more, in which a worker quits at most as often as the count of its gate rose
module _ {A : Type 0} where
  pub record IsNext (count : A → ℕ) (was now : List A) (before after : ReportView) : Type 0 where
    pub round : RoundView
    pub rounds : after.rounds ≡ before.rounds ++ round ∷ []
    pub rise : Rise count was now (quits_at round.tries)
