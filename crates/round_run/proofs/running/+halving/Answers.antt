use Rattle.std.proofs.Common.{rules}
use Rattle.round_run.proofs.Halves.{ran_halves}
use Rattle.round_run.proofs.running.+halving.Goals as goal

pub run_some-returns : goal.run_some-returns
run_some-returns g t c =
    let now = c.run_both.new in
    ran_halves _ _ c.args.workers.now _ now.front _ now.back c.args.gates.now _ now.first _ now.second (search rules) (search rules) (search rules) c.run_both.ensures.front c.run_both.ensures.back
