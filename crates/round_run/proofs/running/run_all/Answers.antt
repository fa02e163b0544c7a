use Rattle.std.proofs.Common.{rules}
use Rattle.round_run.proofs.Ran.{lent_ran, lent_length}
use Rattle.round_run.proofs.running.run_all.Goals as goal

pub returns : goal.returns
returns g c =
    let of = c.as_mut_slice.ensures.value in
    record {
      ran = lent_ran _ _ c.args.workers.items c.as_mut_slice.result.now c.run_some.new.workers c.args.workers.len c.args.gates.now c.run_some.new.gates (search rules) of c.run_some.ensures;
      count = lent_length _ _ c.args.workers.items c.as_mut_slice.result.now c.run_some.new.workers c.args.workers.len c.args.gates.now c.run_some.new.gates (search rules) of c.run_some.ensures;
    }
