use Rattle.std.proofs.Common.{◌≡◌, ◌<◌, length, get_or, arith}
use Rattle.std.specs.BTreeMap.{get}
use Rattle.complex_core.specs.Labels.{face_cmp}
use Rattle.orient_test.specs.Spreads.{IsCrossed, Contradicts}
use Rattle.orient_test.proofs.Reaching.{growing_start, inner_next, inner_end, spread_end, met_some, met_none, still_earlier}
use Rattle.orient_test.proofs.search.signs_from.Goals as goal

pub loop-next-init : goal.loop-next-init
loop-next-init c = growing_start c.args.complex.now.facets c.args.start c.begin.new.reached.items (get face_cmp c.begin.new.places) c.requires.start c.in_ok-begin.ensures.reached c.in_ok-begin.ensures.placed

pub loop-next-preserved : goal.loop-next-preserved
loop-next-preserved c = inner_end c.args.complex.now.facets c.args.start c.loop-label.reached.items (get face_cmp c.loop-label.places) c.loop-next.next c.as_slice-label-items.result.now c.loop-label.label-index c.loop-label.invariant c.loop-label-test.false

pub returns : goal.returns
returns c = (c.loop-next.invariant.begins, spread_end c.args.complex.now.facets c.args.start c.loop-next.reached.items (get face_cmp c.loop-next.places) c.loop-next.next c.loop-next.invariant (omega (arith, c.loop-next-test.false, c.len.ensures)))

pub closed_chain-requires-clause-earlier : goal.closed_chain-requires-clause-earlier
closed_chain-requires-clause-earlier c =
    let met = met_some (IsCrossed c.args.complex.now.facets c.loop-label.reached.items c.cross.new.reached.items c.loop-next.next (get_or c.as_slice-label-items.result.now c.loop-label.label-index 0)) (λ position. (position < length c.loop-label.reached.items) × (c.cross.new.reached.items ≡ c.loop-label.reached.items) × Contradicts c.args.complex.now.facets c.loop-label.reached.items c.loop-next.next position) c.in_ok-position.field-0 c.in-Some.position c.in_ok-position.ensures.crossed c.in-Some.is in
    still_earlier c.args.complex.now.facets c.loop-label.reached.items c.cross.new.reached.items c.deref.result.now c.loop-label.invariant.growing.tree met.1 c.deref.ensures.value

pub loop-label-preserved : goal.loop-label-preserved
loop-label-preserved c = inner_next c.args.complex.now.facets c.args.start c.loop-label.reached.items c.cross.new.reached.items (get face_cmp c.loop-label.places) (get face_cmp c.cross.new.places) c.loop-next.next c.as_slice-label-items.result.now c.loop-label.label-index c.loop-label.invariant (met_none (IsCrossed c.args.complex.now.facets c.loop-label.reached.items c.cross.new.reached.items c.loop-next.next (get_or c.as_slice-label-items.result.now c.loop-label.label-index 0)) (λ position. (position < length c.loop-label.reached.items) × (c.cross.new.reached.items ≡ c.loop-label.reached.items) × Contradicts c.args.complex.now.facets c.loop-label.reached.items c.loop-next.next position) c.in_ok-position.field-0 c.in_ok-position.ensures.crossed c.in-None.is) c.in_ok-position.ensures.placed
