use Rattle.std.proofs.Common.{rules, map}
use Rattle.round_run.proofs.Searching.{opened, opened_taken}
use Rattle.round_run.proofs.report.Report.open.Goals as goal

pub returns : goal.returns
returns c = opened _ _ c.in_ok-start.start _ (search rules)

pub invariant_of-result : goal.invariant_of-result
invariant_of-result c = opened_taken c.args.input.now c.args.plan.now (record { input = c.in_ok-copy.field-0; names = c.in_ok-start.names; descents = map (λ v. v.items) c.new.result.items; rounds = c.new-2.result.items; end = c.in_ok-start.start }) (opened _ _ c.in_ok-start.start _ (search rules))
