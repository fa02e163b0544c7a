-- Searches show one legal history each.
use Rattle.std.proofs.Common.{◌≡◌, ◌+◌, length}
use Rattle.complex_core.specs.Complexes.{ComplexView}
use Rattle.facet_text.specs.Writing.{KeepsLimits as KeepsTextLimits}
use Rattle.anneal_plan.specs.Numbers.{Numbers, KeepsLimits}
use Rattle.round_run.specs.Reports.{ReportView, ReportOk, IsSphere, IsUndecided}
use Rattle.report_text.proofs.Searches.{end_is_minimal}
use Rattle.report_text.proofs.Shown.{report_is_shown}
use Rattle.job_sphere.specs.Answers.{ShowsHistory}
use Rattle.job_sphere.proofs.Ends.{sphere_descents, spent_descents}

history : (k : ComplexView) (plan : Numbers) (r : ReportView) → KeepsTextLimits k → KeepsLimits plan → ReportOk k plan r → length r.descents ≡ length r.rounds + 1 → ShowsHistory k plan r
history k plan r limits numbers ok more = record { ok = ok; shown = report_is_shown k plan r limits numbers ok; minimal = end_is_minimal k plan r ok more }

pub sphere_history : (k : ComplexView) (plan : Numbers) (r : ReportView) → KeepsTextLimits k → KeepsLimits plan → IsSphere k plan r → ShowsHistory k plan r
sphere_history k plan r limits numbers h = history k plan r limits numbers h.ok (sphere_descents k plan r h)

pub undecided_history : (k : ComplexView) (plan : Numbers) (r : ReportView) → KeepsTextLimits k → KeepsLimits plan → IsUndecided k plan r → ShowsHistory k plan r
undecided_history k plan r limits numbers h = history k plan r limits numbers h.ok (spent_descents k plan r h)
