use Rattle.std.proofs.Common.{refl, arith}
use Rattle.std.specs.Fmt.{decimal}
use Rattle.facet_text.proofs.Joined.{joined_more}
use Rattle.facet_text.proofs.write.put_facet.Goals as goal

pub loop-i-preserved : goal.loop-i-preserved
loop-i-preserved c =
    rw (c.in_ok-put_number.ensures.ok, c.in_ok-put_comma.ensures.ok) (joined_more decimal c.args.labels.now c.loop-i.i 0 c.args.out.now.items c.loop-i.out.items _ (omega arith) refl c.loop-i.invariant)
