use Rattle.round_run.proofs.Histories.{Left}
use Rattle.round_run.proofs.report.Report.named_flips.Given as goal

abbrev pub invariant-loop-place : goal.invariant-loop-place
invariant-loop-place l = Left l.self.names l.self.descents l.self.rounds l.place l.all.items
