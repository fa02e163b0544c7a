-- What the report of a search shows of the complex that was given, in its own labels.
use Rattle.std.specs.Prelude.{◌≡◌, ◌≤◌, true, List, length, Some}
use Rattle.std.specs.List.{AllByRecursion}
use Rattle.complex_core.specs.Maps.{renamed}
use Rattle.complex_core.specs.Complexes.{ComplexView}
use Rattle.flip_rules.specs.Boundaries.{IsBoundary}
use Rattle.flip_rules.specs.Certificates.{SphereCert}
use Rattle.flip_rules.specs.Flips.{OfFaces, replay}
use Rattle.flip_rules.specs.Journals.{flat}
use Rattle.flip_rules.specs.declared.flip.Flip.{Flip}
use Rattle.flip_names.specs.Names.{named_flips, takes_flips}
use Rattle.cert_text.specs.Writing.{AreFlips}
use Rattle.sphere_text.specs.Statements.{placed}
use Rattle.anneal_plan.specs.Numbers.{Numbers}
use Rattle.round_run.specs.Reports.{ReportView, history}

-- the flips of a report in order, on its places
abbrev pub flips_of : ReportView → List Flip
flips_of r = flat (history r)

-- and in the labels of the complex that was given
abbrev pub told_flips : ReportView → List Flip
told_flips r = named_flips r.names (flips_of r)

-- The places are, under the names, the complex that was given. The flips are legal in order from them, and lead to the end. Each of their labels has a name, and in the labels of the complex they are a certificate of it where the end is the boundary of a simplex.
pub record IsReported (k : ComplexView) (plan : Numbers) (r : ReportView) : Type 0 where
  pub start : renamed (placed k plan.room) r.names ≡ k
  pub replays : replay (placed k plan.room) (flips_of r) ≡ Some r.end
  pub faces : AllByRecursion OfFaces (flips_of r)
  pub taken : takes_flips r.names (flips_of r) ≡ true
  pub few : length (flips_of r) ≤ 2520000
  pub fit : AreFlips (told_flips r)
  pub certificate : IsBoundary r.end → SphereCert k (told_flips r)
