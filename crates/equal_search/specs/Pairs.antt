-- Two searches that go on side by side.
use Rattle.std.specs.Prelude.{◌≡◌, ℕ, ◌+◌, List, [], ◌∷◌, ◌++◌, length, Some}
use Rattle.std.specs.List.{AllByRecursion}
use Rattle.complex_core.specs.Complexes.{ComplexView, IsComplex}
use Rattle.flip_rules.specs.Flips.{OfFaces, replay}
use Rattle.flip_names.specs.Laws.{Renames}
use Rattle.facet_iso.specs.Isomorphisms.{IsFit}
use Rattle.anneal_plan.specs.Numbers.{Numbers}
use Rattle.round_rules.specs.Rounds.{RoundView}
use Rattle.round_run.specs.Gates.{Rise, quits_at}
use Rattle.round_run.specs.Reports.{ReportView}
use Rattle.round_run.specs.Searches.{Stands}
use Rattle.report_text.specs.Shown.{told_flips}
use Rattle.equal_text.specs.Lists.{told_end}
use Rattle.equal_search.specs.Comparing.{AreJoined, NoMaps, stages}
use Rattle.equal_search.specs.declared.search.EqualFound.{EqualFound}
use Rattle.equal_search.specs.declared.search.EqualFound.TheVariants.{Equal, Undecided}

-- the flips of a report lead from its complex to where it stands, all in the labels of its complex, and it can be compared there
pub record CanCompare (r : ReportView) : Type 0 where
  pub complex : IsComplex r.input
  pub faces : AllByRecursion OfFaces (told_flips r)
  pub replays : replay r.input (told_flips r) ≡ Some (told_end r)
  pub named : Renames r.names r.end
  pub fit : IsFit (told_end r)

-- both stand behind a descent, with as many rounds, and no comparison before found a map
pub record AreSeeking (k l : ComplexView) (plan : Numbers) (r s : ReportView) : Type 0 where
  pub first_complex : IsComplex k
  pub second_complex : IsComplex l
  pub first_fit : IsFit k
  pub second_fit : IsFit l
  pub first_lows : List ComplexView
  pub second_lows : List ComplexView
  pub first : Stands k plan first_lows r
  pub second : Stands l plan second_lows s
  pub none : NoMaps (stages k plan first_lows) (stages l plan second_lows)
  pub rounds : length r.rounds ≡ length s.rounds

-- one round more on both, in which a worker quits at most as often as the count of its gate rose
module _ {A : Type 0} where
  pub record AreNext (count : A → ℕ) (was now : List A) (r s t u : ReportView) : Type 0 where
    pub first : RoundView
    pub second : RoundView
    pub first_rounds : t.rounds ≡ r.rounds ++ first ∷ []
    pub second_rounds : u.rounds ≡ s.rounds ++ second ∷ []
    pub rise : Rise count was now (λ i. quits_at first.tries i + quits_at second.tries i)

-- what is found where a map takes the one end to the other
abbrev pub IsJoined : ReportView → ReportView → List (ℕ × ℕ) → EqualFound → Type 0
IsJoined r s between (Equal t u flips pairs) = (t ≡ r) × (u ≡ s) × AreJoined r s between flips.items pairs
IsJoined r s between (Undecided t u) = ⊥
