use Rattle.std.proofs.Common.{arith}
use Rattle.line_text.proofs.NumberLaws.{capped_more, digit_at}
use Rattle.line_text.proofs.number.number_of.Goals as goal

pub overflow_sub-digit : goal.overflow_sub-digit
overflow_sub-digit c = omega (arith, (digit_at c.args.text.now c.loop-digit.digit-index c.requires (omega arith)).0)

pub loop-digit-preserved : goal.loop-digit-preserved
loop-digit-preserved c =
    rw (c.min-value.ensures, c.from.ensures) (capped_more c.args.text.now c.loop-digit.digit-index c.loop-digit.value (omega arith) c.requires c.loop-digit.invariant)
