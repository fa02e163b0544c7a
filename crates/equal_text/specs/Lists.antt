-- The flips that the reports of two complexes tell, where a map takes the one end to the other.
use Rattle.std.specs.Prelude.{◌≡◌, ℕ, List, ◌++◌}
use Rattle.complex_core.specs.Complexes.{ComplexView}
use Rattle.complex_core.specs.Maps.{IsMap, renamed}
use Rattle.facet_text.specs.Writing.{KeepsLimits as KeepsTextLimits}
use Rattle.cert_text.specs.Writing.{AreFlips, ArePairs}
use Rattle.flip_rules.specs.Laws.{inverse_list}
use Rattle.flip_rules.specs.declared.flip.Flip.{Flip}
use Rattle.flip_journal.specs.Carried.{NamesLabels, carried_over, map_at_end}
use Rattle.anneal_plan.specs.Numbers.{Numbers, KeepsLimits}
use Rattle.round_run.specs.Reports.{ReportView, ReportOk}
use Rattle.report_text.specs.Shown.{told_flips}
use Rattle.equal_text.specs.Texts.{AreFew}

-- where a report ends, in the labels of its complex
abbrev pub told_end : ReportView → ComplexView
told_end r = renamed r.end r.names

-- the flips of the second report, from its end back to its complex
abbrev pub way_back : ReportView → List Flip
way_back s = inverse_list (told_flips s)

-- the flips of the first report, and behind them the way back of the second, carried over a map from the one end to the other
abbrev pub joined : ReportView → ReportView → List (ℕ × ℕ) → List Flip
joined r s between = told_flips r ++ carried_over between (way_back s)

-- the map at their end, to the complex of the second report
abbrev pub map_left : ReportView → List (ℕ × ℕ) → List (ℕ × ℕ)
map_left s between = map_at_end between (way_back s)

-- flips and pairs keep the limits of the text of a certificate, and are few
pub record MayBeWritten (flips : List Flip) (pairs : List (ℕ × ℕ)) : Type 0 where
  pub flips_keep : AreFlips flips
  pub pairs_keep : ArePairs pairs
  pub few : AreFew flips pairs

-- so it is with those of two reports by one plan, from complexes within the limits of texts, where the map takes exactly the labels of the one end, and makes the other end of it
abbrev pub ListFits : Type 0
ListFits = (k l : ComplexView) (plan : Numbers) (r s : ReportView) (between : List (ℕ × ℕ)) → KeepsTextLimits k → KeepsTextLimits l → KeepsLimits plan → ReportOk k plan r → ReportOk l plan s
    → IsMap between → NamesLabels between (told_end r) → renamed (told_end r) between ≡ told_end s → MayBeWritten (joined r s between) (map_left s between)
