use Rattle.std.proofs.Common.{◌-◌, length}
use Rattle.round_run.specs.Gates.{Rise, all_quits_at}
use Rattle.round_run.specs.Searches.{IsSeeking}
use Rattle.round_run.proofs.search.search_sphere.Given as goal

abbrev pub invariant-legs : goal.invariant-legs
invariant-legs g l = record {
  seeking : IsSeeking l.input l.plan l.report;
  quits : Rise (λ gate. g.G.Gate.quits gate) l.fn.gates l.gates (all_quits_at l.report.rounds);
}

abbrev pub decreases-legs : goal.decreases-legs
decreases-legs g l = l.plan.rounds - length l.report.rounds
