-- What a search for a sphere found.
use Rattle.complex_core.specs.Complexes.{ComplexView}
use Rattle.anneal_plan.specs.Numbers.{Numbers}
use Rattle.round_run.specs.Reports.{ReportView, IsSphere, IsUndecided}
use Rattle.round_run.specs.declared.search.SphereFound.{SphereFound}
use Rattle.round_run.specs.declared.search.SphereFound.TheVariants.{Sphere, Undecided}

-- its report
abbrev pub report_of : SphereFound → ReportView
report_of (Sphere r) = r
report_of (Undecided r) = r

-- a sphere exactly where the last descent was the first that ended in the boundary of a simplex, and undecided exactly where all rounds were made and none did
abbrev pub IsFound : ComplexView → Numbers → SphereFound → Type 0
IsFound given plan (Sphere r) = IsSphere given plan r
IsFound given plan (Undecided r) = IsUndecided given plan r
