use Rattle.std.proofs.Common.{◌+◌, ◌≤◌, length, arith}
use Rattle.pseudo_test.proofs.Counted.{run_last}
use Rattle.pseudo_test.proofs.ridges.count.Goals as goal

pub overflow_cast-result : goal.overflow_cast-result
overflow_cast-result c =
    let n : length c.args.run.now ≤ c.in-Some.label + 1 = run_last c.args.run.now c.last.result c.in-Some.field-0 c.in-Some.label c.requires c.last.ensures.value c.in-Some.is c.in-Some.label-is in
    omega (arith, n)
