use Rattle.std.proofs.Common.{◌∙◌, ap, arith}
use Rattle.facet_text.specs.Writing.{facet_text}
use Rattle.facet_text.proofs.Joined.{joined_more}
use Rattle.facet_text.proofs.write.put_facets.Goals as goal

pub loop-i-preserved : goal.loop-i-preserved
loop-i-preserved c =
    let piece = ap facet_text (c.deref.ensures ∙ c.labels.ensures.labels ∙ c.index-facets-i.is) in
    rw (c.in_ok-put_facet.ensures.ok, c.in_ok-put_comma.ensures.ok)
    (joined_more facet_text c.args.facets.now c.loop-i.i c.index-facets-i.result c.args.out.now.items c.loop-i.out.items _ (omega arith) piece c.loop-i.invariant)
