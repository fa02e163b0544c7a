-- Laws of reports.
use Rattle.std.specs.Prelude.{◌≡◌, ◌≤◌, ◌+◌, List, length}
use Rattle.complex_core.specs.Complexes.{ComplexView}
use Rattle.facet_text.specs.Writing.{KeepsLimits as KeepsTextLimits}
use Rattle.cert_text.specs.Writing.{AreFlips}
use Rattle.flip_rules.specs.declared.flip.Flip.{Flip}
use Rattle.descent_laws.specs.Descents.{IsMinimal}
use Rattle.descent_laws.specs.Laws.{IsCycle}
use Rattle.sphere_text.specs.Texts.{certified}
use Rattle.anneal_plan.specs.Numbers.{Numbers, KeepsLimits}
use Rattle.round_run.specs.Reports.{ReportView, ReportOk, IsUndecided}
use Rattle.report_text.specs.Shown.{IsReported}

-- so it is with each report of a search from a complex within the limits of texts
abbrev pub ReportIsShown : Type 0
ReportIsShown = (k : ComplexView) (plan : Numbers) (r : ReportView) → KeepsTextLimits k → KeepsLimits plan → ReportOk k plan r → IsReported k plan r

-- where there is one descent more than there are rounds, no legal flip of an index above d/2 is left at the end
abbrev pub EndIsMinimal : Type 0
EndIsMinimal = (k : ComplexView) (plan : Numbers) (r : ReportView) → ReportOk k plan r → length r.descents ≡ length r.rounds + 1 → IsMinimal r.end

-- a closed and strongly connected complex of dimension 1 is never undecided
abbrev pub CycleIsFound : Type 0
CycleIsFound = (k : ComplexView) (plan : Numbers) (r : ReportView) → IsCycle k → IsUndecided k plan r → ⊥

-- the text of a complex and of so many flips behind it has no more bytes than an input of a certificate may
abbrev pub CertifiedIsShort : Type 0
CertifiedIsShort = (k : ComplexView) (flips : List Flip) → KeepsTextLimits k → AreFlips flips → length flips ≤ 2520000 → length (certified k flips) ≤ 268435456

-- without rounds there is one report
abbrev pub DescentReportIsOne : Type 0
DescentReportIsOne = (k : ComplexView) (plan : Numbers) (r s : ReportView) → plan.rounds ≡ 0 → ReportOk k plan r → ReportOk k plan s → length r.descents ≡ 1 → length s.descents ≡ 1 → r ≡ s
