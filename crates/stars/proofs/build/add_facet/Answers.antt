use Rattle.std.proofs.Common.{◌<◌, ◌-◌, get_or, arith, length, ◌∙◌}
use Rattle.stars.specs.StarViews.{shown}
use Rattle.stars.proofs.Adding.{AtLabel, at_label, label_inside, row_fits, added_next, added_none}
use Rattle.stars.proofs.Shown.{shown_here, shown_set}
use Rattle.stars.proofs.build.add_facet.Goals as goal

pub loop-label-init : goal.loop-label-init
loop-label-init c = added_none c.args.facet.now (shown c.args.stars.now.items)

pub overflow_sub-label : goal.overflow_sub-label
overflow_sub-label c = (at_label (shown c.args.stars.now.items) c.args.facet.now c.as_slice-label-items.result.now c.loop-label.label-index c.requires c.labels.ensures.face (c.as_slice-label-items.ensures ∙ c.labels.ensures.labels) c.loop-label-test.true).low

pub index_mut-requires : goal.index_mut-requires
index_mut-requires c =
    let at : AtLabel (shown c.args.stars.now.items) c.args.facet.now c.as_slice-label-items.result.now c.loop-label.label-index = at_label (shown c.args.stars.now.items) c.args.facet.now c.as_slice-label-items.result.now c.loop-label.label-index c.requires c.labels.ensures.face (c.as_slice-label-items.ensures ∙ c.labels.ensures.labels) c.loop-label-test.true in
    let inside : get_or c.as_slice-label-items.result.now c.loop-label.label-index 0 - 1 < length c.loop-label.stars.items = label_inside (shown c.args.stars.now.items) c.loop-label.stars.items c.args.facet.now c.as_slice-label-items.result.now c.loop-label.label-index at c.loop-label.invariant in
    omega (arith, inside, c.loop-label.stars.ok.0)

pub push-requires : goal.push-requires
push-requires c =
    let at : AtLabel (shown c.args.stars.now.items) c.args.facet.now c.as_slice-label-items.result.now c.loop-label.label-index = at_label (shown c.args.stars.now.items) c.args.facet.now c.as_slice-label-items.result.now c.loop-label.label-index c.requires c.labels.ensures.face (c.as_slice-label-items.ensures ∙ c.labels.ensures.labels) c.loop-label-test.true in
    let inside : get_or c.as_slice-label-items.result.now c.loop-label.label-index 0 - 1 < length c.loop-label.stars.items = label_inside (shown c.args.stars.now.items) c.loop-label.stars.items c.args.facet.now c.as_slice-label-items.result.now c.loop-label.label-index at c.loop-label.invariant in
    row_fits (shown c.args.stars.now.items) (shown c.loop-label.stars.items) c.args.facet.now c.as_slice-label-items.result.now c.loop-label.label-index c.index_mut.result.now.star c.requires at c.loop-label.invariant (shown_here c.loop-label.stars.items (get_or c.as_slice-label-items.result.now c.loop-label.label-index 0 - 1) c.index_mut.result.now inside c.index_mut.ensures.value)

pub loop-label-preserved : goal.loop-label-preserved
loop-label-preserved c =
    let at : AtLabel (shown c.args.stars.now.items) c.args.facet.now c.as_slice-label-items.result.now c.loop-label.label-index = at_label (shown c.args.stars.now.items) c.args.facet.now c.as_slice-label-items.result.now c.loop-label.label-index c.requires c.labels.ensures.face (c.as_slice-label-items.ensures ∙ c.labels.ensures.labels) c.loop-label-test.true in
    let inside : get_or c.as_slice-label-items.result.now c.loop-label.label-index 0 - 1 < length c.loop-label.stars.items = label_inside (shown c.args.stars.now.items) c.loop-label.stars.items c.args.facet.now c.as_slice-label-items.result.now c.loop-label.label-index at c.loop-label.invariant in
    shown_set c.loop-label.stars.items (get_or c.as_slice-label-items.result.now c.loop-label.label-index 0 - 1) c.push.new.self
    ∙ added_next (shown c.args.stars.now.items) (shown c.loop-label.stars.items) c.args.facet.now c.as_slice-label-items.result.now c.loop-label.label-index c.index_mut.result.now.star c.push.new.self.star c.requires at c.loop-label-test.true c.loop-label.invariant (shown_here c.loop-label.stars.items (get_or c.as_slice-label-items.result.now c.loop-label.label-index 0 - 1) c.index_mut.result.now inside c.index_mut.ensures.value) c.in_ok-push.ensures
