use Rattle.std.proofs.Common.{◌∙◌, refl, arith}
use Rattle.flip_options.proofs.FirstLooking.{grown_ends, grown_next, grows_by, label_above, label_fits, unwrapped}
use Rattle.flip_options.proofs.first_look.+look_from.Goals as goal

pub unwrap-more-requires : goal.unwrap-more-requires
unwrap-more-requires t c =
    label_fits c.args.face.now c.args.last _ c.args.others _ c.requires.last c.requires.small c.if-others-eq0.false
    (label_above c.args.rows.now c.args.last c.as_slice-label-items.result.now c.loop-label.label-index _ (c.as_slice-label-items.ensures.value ∙ c.in_ok-labels.ensures) c.loop-label-test.true refl)
    c.with.ensures

pub look_from-requires : goal.look_from-requires
look_from-requires t c =
    let above = label_above c.args.rows.now c.args.last c.as_slice-label-items.result.now c.loop-label.label-index _ (c.as_slice-label-items.ensures.value ∙ c.in_ok-labels.ensures) c.loop-label-test.true refl in
    let g = grows_by c.args.stars.now c.args.face.now c.args.last _ c.args.others c.args.rows.now _ _ c.requires.rows c.requires.last c.requires.small c.if-others-eq0.false above (c.deref.ensures.value ∙ c.in_ok-near.ensures) (unwrapped _ _ _ _ c.unwrap-more.ensures c.with.ensures) in
    (omega (arith, c.decreases, c.if-others-eq0.false), (c.requires.stars, (g.rows, (g.last, g.small))))

pub loop-label-preserved : goal.loop-label-preserved
loop-label-preserved t c =
    let above = label_above c.args.rows.now c.args.last c.as_slice-label-items.result.now c.loop-label.label-index _ (c.as_slice-label-items.ensures.value ∙ c.in_ok-labels.ensures) c.loop-label-test.true refl in
    let g = grows_by c.args.stars.now c.args.face.now c.args.last _ c.args.others c.args.rows.now _ _ c.requires.rows c.requires.last c.requires.small c.if-others-eq0.false above (c.deref.ensures.value ∙ c.in_ok-near.ensures) (unwrapped _ _ _ _ c.unwrap-more.ensures c.with.ensures) in
    grown_next c.args.stars.now _ _ _ c.args.face.now _ c.args.others c.as_slice-label-items.result.now c.loop-label.label-index _ c.loop-label.invariant c.in_ok-look_from.ensures g.is c.loop-label-test.true refl

pub returns : goal.returns
returns t c =
    grown_ends c.args.stars.now _ _ c.args.rows.now c.args.face.now c.args.last c.args.others c.as_slice-label-items.result.now c.loop-label.label-index c.loop-label.invariant c.requires.rows (c.as_slice-label-items.ensures.value ∙ c.in_ok-labels.ensures) c.loop-label-test.false
