use Rattle.std.proofs.Common.{◌+◌, ◌-◌, ◌/◌, get_or, arith, refl}
use Rattle.flip_journal.proofs.Gaps.{gap_found, narrows_down}
use Rattle.flip_journal.proofs.names.gap.Goals as goal

pub loop-low-preserved : goal.loop-low-preserved
loop-low-preserved c =
    let middle = c.loop-low.low + (c.loop-low.high - c.loop-low.low) / 2 in
    narrows_down c.args.numbers.now c.loop-low.low c.loop-low.high middle (get_or c.args.numbers.now middle 0) c.requires c.loop-low.invariant (omega arith) (omega (arith, c.loop-low-test.true)) refl (λ e. absurd (omega (arith, e, c.if-numbers-middle.false)))

pub returns-clause-gap : goal.returns-clause-gap
returns-clause-gap c = gap_found c.args.numbers.now c.loop-low.low c.loop-low.high c.requires c.loop-low.invariant (omega (arith, c.loop-low-test.false))
