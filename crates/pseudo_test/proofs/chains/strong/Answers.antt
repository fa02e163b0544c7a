use Rattle.std.proofs.Common.{◌∙◌, ℕ, List, sym, subst, arith, get_or}
use Rattle.std.specs.BTreeSet.{contains}
use Rattle.complex_core.specs.Labels.{face_cmp}
use Rattle.pseudo_test.proofs.Spreading.{Spread, rest_sorted, spread_start, within_start, within_faces, within_next, within_end, apart_end, least_first, strong_end, none_seen, none_left, no_less, in_tree}
use Rattle.pseudo_test.proofs.chains.strong.Goals as goal
use Rattle.std.proofs.lemmas.List.{get_or_default}

pub all_of-requires : goal.all_of-requires
all_of-requires c = rest_sorted c.args.complex.now c.facets-facets.result.now c.facets-facets.ensures.complex c.facets-facets.ensures.facets

pub loop-next-init : goal.loop-next-init
loop-next-init c = record {
  spread = spread_start c.args.complex.now c.facets-facets.result.now c.in_ok-reached.reached.items c.in_ok-rest.rest.keys c.index-facets-0.result (contains face_cmp c.new-seen.result) c.facets-facets.ensures.complex c.facets-facets.ensures.facets c.index-facets-0.is c.in_ok-reached.ensures.items c.in_ok-rest.ensures (λ r. none_seen c.new-seen.result r c.new-seen.ensures.empty);
  done = λ k x h. absurd (omega (arith, h));
}

pub loop-label-init : goal.loop-label-init
loop-label-init c = within_start c.args.complex.now c.index-facets-0.result c.index.result.now c.as_slice-label-items.result.now c.loop-next.reached.items c.loop-next.rest.keys (contains face_cmp c.loop-next.seen) c.loop-next.next c.loop-next.invariant.spread c.loop-next.invariant.done (omega (arith, c.loop-next-test.true, c.len.ensures)) c.index.ensures (c.as_slice-label-items.ensures ∙ c.labels.ensures.labels)

pub spread-requires-clause-faces : goal.spread-requires-clause-faces
spread-requires-clause-faces c =
    let x : ℕ = get_or c.as_slice-label-items.result.now c.loop-label.label-index 0 in
    (within_faces c.args.complex.now c.index-facets-0.result c.loop-label.reached.items c.loop-label.rest.keys (contains face_cmp c.loop-label.seen) c.loop-next.next c.index.result.now c.as_slice-label-items.result.now c.without-ridge.result c.loop-label.label-index x c.in_ok-incidences.incidences.items c.deref.result.now c.facets-facets.ensures.complex c.loop-label.invariant c.loop-label-test.true (get_or_default c.as_slice-label-items.result.now c.loop-label.label-index 0 x c.loop-label-test.true) (c.as_slice-label-items.ensures ∙ c.labels.ensures.labels) c.without-ridge.ensures c.in_ok-incidences.ensures.incidences c.deref.ensures.value).1

pub loop-label-preserved : goal.loop-label-preserved
loop-label-preserved c =
    let x : ℕ = get_or c.as_slice-label-items.result.now c.loop-label.label-index 0 in
    within_next c.args.complex.now c.index-facets-0.result c.loop-label.reached.items c.loop-label.rest.keys c.spread.new.reached.items c.spread.new.rest.keys (contains face_cmp c.loop-label.seen) (contains face_cmp c.spread.new.seen) c.loop-next.next c.index.result.now c.as_slice-label-items.result.now c.without-ridge.result c.loop-label.label-index x c.in_ok-incidences.incidences.items c.deref.result.now c.facets-facets.ensures.complex c.loop-label.invariant c.loop-label-test.true (get_or_default c.as_slice-label-items.result.now c.loop-label.label-index 0 x c.loop-label-test.true) (c.as_slice-label-items.ensures ∙ c.labels.ensures.labels) c.without-ridge.ensures c.in_ok-incidences.ensures.incidences c.deref.ensures.value c.in_ok-spread.ensures.moved c.in_ok-spread.ensures.seen

pub loop-next-preserved : goal.loop-next-preserved
loop-next-preserved c = record {
  spread = c.loop-label.invariant.spread;
  done = within_end c.args.complex.now c.index-facets-0.result c.loop-label.reached.items c.loop-label.rest.keys (contains face_cmp c.loop-label.seen) c.loop-next.next c.as_slice-label-items.result.now c.loop-label.label-index c.loop-label.invariant c.loop-label-test.false;
}

pub returns-in-Some : goal.returns-in-Some
returns-in-Some c = apart_end c.args.complex.now c.index-facets-0.result c.in-Some.other.now c.loop-next.reached.items c.loop-next.rest.keys (contains face_cmp c.loop-next.seen) c.loop-next.next c.facets-facets.ensures.complex (least_first c.args.complex.now c.facets-facets.result.now c.index-facets-0.result c.facets-facets.ensures.complex c.facets-facets.ensures.facets c.index-facets-0.is) c.loop-next.invariant.spread c.loop-next.invariant.done (omega (arith, c.loop-next-test.false, c.len.ensures)) (sym (in_tree c.loop-next.rest c.in-Some.other.now) ∙ c.in-Some.ensures.member) (no_less c.loop-next.rest c.in-Some.other.now c.in-Some.ensures.least)

pub returns : goal.returns
returns c = let P : List (List ℕ) → Type 0 = λ fs. Spread c.args.complex.now.facets c.index-facets-0.result c.loop-next.reached.items fs (contains face_cmp c.loop-next.seen) in strong_end c.args.complex.now c.index-facets-0.result c.loop-next.reached.items (contains face_cmp c.loop-next.seen) (subst P (none_left c.loop-next.rest c.in-None.ensures.variant) c.loop-next.invariant.spread)
