use Rattle.std.proofs.Common.{sym, ◌∙◌, arith}
use Rattle.anneal_plan.proofs.Stepping.{is_some_of, with_label, unwrapped, splits, first_few, goes_on, ends}
use Rattle.anneal_plan.proofs.grow.+grow.Goals as goal

pub unwrap-more-requires : goal.unwrap-more-requires
unwrap-more-requires t c =
    is_some_of _ _ (with_label c.args.centre.vertex c.args.others c.loop-label.before c.in-Some-next.label c.args.rows.now c.args.face.now c.next.new.self _ c.requires.rows c.if-others-eq0.false c.requires.small c.next.ensures.near (sym c.in-Some-next.is ∙ c.next.ensures.label) c.with.ensures)

pub grow-requires : goal.grow-requires
grow-requires t c =
    let s = splits c.args.centre.dim c.args.centre.vertex c.args.others c.loop-label.before c.in-Some-next.label _ _ _ _ c.next.new.self c.requires.rows c.requires.rising c.if-others-eq0.false c.requires.small c.next.ensures.near (sym c.in-Some-next.is ∙ c.next.ensures.label) c.rows.ensures (unwrapped _ _ _ _ c.unwrap-more.ensures c.with.ensures) in
    (omega (arith, c.decreases, c.if-others-eq0.false), (c.requires.dim, (s.ordered, (s.kept, (s.fits, first_few _ _ _ _ _ _ c.loop-label.invariant s.all)))))

pub loop-label-smaller : goal.loop-label-smaller
loop-label-smaller t c =
    let s = splits c.args.centre.dim c.args.centre.vertex c.args.others c.loop-label.before c.in-Some-next.label _ _ _ _ c.next.new.self c.requires.rows c.requires.rising c.if-others-eq0.false c.requires.small c.next.ensures.near (sym c.in-Some-next.is ∙ c.next.ensures.label) c.rows.ensures (unwrapped _ _ _ _ c.unwrap-more.ensures c.with.ensures) in
    omega (arith, s.above)

pub loop-label-preserved : goal.loop-label-preserved
loop-label-preserved t c =
    let s = splits c.args.centre.dim c.args.centre.vertex c.args.others c.loop-label.before c.in-Some-next.label _ _ _ _ c.next.new.self c.requires.rows c.requires.rising c.if-others-eq0.false c.requires.small c.next.ensures.near (sym c.in-Some-next.is ∙ c.next.ensures.label) c.rows.ensures (unwrapped _ _ _ _ c.unwrap-more.ensures c.with.ensures) in
    goes_on _ _ _ _ _ _ _ c.loop-label.invariant s.all c.grow.ensures

pub returns : goal.returns
returns t c = ends c.args.centre.dim c.args.centre.vertex c.args.others c.loop-label.before c.args.rows.now c.args.face.now c.next.new.self _ _ _ c.requires.rows c.if-others-eq0.false c.next.ensures.near (sym c.in_default-next.is ∙ c.next.ensures.label) c.loop-label.invariant
