use Rattle.std.proofs.Common.{◌∙◌, refl, arith}
use Rattle.anneal_plan.proofs.Gathering.{all_over, gathered_all, gathered_more, grows_small, label_fits, rows_kept, rows_rise}
use Rattle.anneal_plan.proofs.Stepping.{unwrapped}
use Rattle.anneal_plan.proofs.gather.+gather.Goals as goal

pub unwrap-more-requires : goal.unwrap-more-requires
unwrap-more-requires t c =
    label_fits c.args.centre.vertex c.args.others c.args.last c.args.rows.now c.args.face.now c.as_slice-label-items.result.now c.loop-label.label-index _ _ (c.as_slice-label-items.ensures.value ∙ c.in_ok-labels.ensures) c.loop-label-test.true refl c.if-others-eq0.false c.requires.small c.with.ensures

pub gather-requires : goal.gather-requires
gather-requires t c =
    let near = c.deref.ensures.value ∙ c.in_ok-near.ensures in
    let more = unwrapped _ _ _ _ c.unwrap-more.ensures c.with.ensures in
    (omega (arith, c.decreases, c.if-others-eq0.false), (c.requires.dim, (rows_rise _ c.args.rows.now _ near c.requires.rising, (rows_kept c.args.centre.vertex _ c.args.rows.now _ near c.requires.rows, (all_over c.args.rows.now _ c.args.face.now _ _ c.requires.over near more, grows_small c.args.others _ c.args.face.now _ more c.if-others-eq0.false c.requires.small)))))

pub loop-label-preserved : goal.loop-label-preserved
loop-label-preserved t c =
    let near = c.deref.ensures.value ∙ c.in_ok-near.ensures in
    let more = unwrapped _ _ _ _ c.unwrap-more.ensures c.with.ensures in
    gathered_more c.args.centre.dim c.args.centre.vertex _ c.loop-label.label-index _ c.args.rows.now _ c.args.face.now _ c.as_slice-label-items.result.now _ _ _ c.requires.over near more c.loop-label-test.true refl c.loop-label.invariant c.in_ok-gather.ensures

pub returns : goal.returns
returns t c =
    gathered_all c.args.centre.dim c.args.centre.vertex c.args.others c.loop-label.label-index c.args.last c.args.rows.now c.args.face.now c.as_slice-label-items.result.now _ _ c.requires.over (c.as_slice-label-items.ensures.value ∙ c.in_ok-labels.ensures) c.if-others-eq0.false c.loop-label-test.false c.loop-label.invariant
