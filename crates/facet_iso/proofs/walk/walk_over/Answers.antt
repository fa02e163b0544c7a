use Rattle.std.proofs.Common.{◌∙◌, ℕ, refl, arith, get_or}
use Rattle.std.specs.BTreeSet.{contains}
use Rattle.std.proofs.lemmas.List.{get_or_default}
use Rattle.complex_core.specs.Labels.{face_cmp, without}
use Rattle.pseudo_test.proofs.Spreading.{none_seen, rest_sorted, spread_start, within_end, within_faces, within_next}
use Rattle.facet_iso.specs.Isomorphisms.{least_facet}
use Rattle.facet_iso.proofs.Walking.{begins_first, first_is, leads_first, still_there, walk_end}
use Rattle.facet_iso.proofs.walk.walk_over.Goals as goal

pub all_of-requires : goal.all_of-requires
all_of-requires c = rest_sorted c.args.complex.now c.facets-facets.result.now c.facets-facets.ensures.complex c.facets-facets.ensures.facets

pub loop-next-init : goal.loop-next-init
loop-next-init c = record {
  spread = spread_start c.args.complex.now c.facets-facets.result.now c.in_ok-from_slice.field-0.items c.in_ok-all_of.field-0.keys (least_facet c.args.complex.now) (contains face_cmp c.new.result) c.facets-facets.ensures.complex c.facets-facets.ensures.facets (first_is c.args.complex.now c.facets-facets.result.now c.facets-facets.ensures.complex c.facets-facets.ensures.facets) c.in_ok-from_slice.ensures.items c.in_ok-all_of.ensures (λ r. none_seen c.new.result r c.new.ensures.empty);
  done = λ k x h. absurd (omega (arith, h));
  begins = begins_first c.args.complex.now c.facets-facets.result.now c.in_ok-from_slice.field-0.items c.facets-facets.ensures.facets c.in_ok-from_slice.ensures.items;
  leads = leads_first c.args.complex.now c.facets-facets.result.now c.in_ok-from_slice.field-0.items c.new-2.result.items c.facets-facets.ensures.complex c.facets-facets.ensures.facets c.in_ok-from_slice.ensures.items c.new-2.ensures.items;
}

pub cross-requires-clause-faces : goal.cross-requires-clause-faces
cross-requires-clause-faces c =
    let x : ℕ = get_or c.as_slice-label-items.result.now c.loop-label.label-index 0 in
    (within_faces c.args.complex.now (least_facet c.args.complex.now) c.loop-label.walk.reached.items c.loop-label.walk.rest.keys (contains face_cmp c.loop-label.walk.seen) c.loop-next.next c.index.result.now c.as_slice-label-items.result.now (without c.index.result.now x) c.loop-label.label-index x c.in_ok-incidences.incidences.items c.deref.result.now c.facets-facets.ensures.complex c.loop-label.invariant.within c.loop-label-test.true (get_or_default c.as_slice-label-items.result.now c.loop-label.label-index 0 x c.loop-label-test.true) (c.as_slice-label-items.ensures ∙ c.labels.ensures.labels) refl c.in_ok-incidences.ensures.incidences c.deref.ensures.value).1

pub loop-label-preserved : goal.loop-label-preserved
loop-label-preserved c =
    let x : ℕ = get_or c.as_slice-label-items.result.now c.loop-label.label-index 0 in
    record {
      within = within_next c.args.complex.now (least_facet c.args.complex.now) c.loop-label.walk.reached.items c.loop-label.walk.rest.keys c.cross.new.walk.reached.items c.cross.new.walk.rest.keys (contains face_cmp c.loop-label.walk.seen) (contains face_cmp c.cross.new.walk.seen) c.loop-next.next c.index.result.now c.as_slice-label-items.result.now (without c.index.result.now x) c.loop-label.label-index x c.in_ok-incidences.incidences.items c.deref.result.now c.facets-facets.ensures.complex c.loop-label.invariant.within c.loop-label-test.true (get_or_default c.as_slice-label-items.result.now c.loop-label.label-index 0 x c.loop-label-test.true) (c.as_slice-label-items.ensures ∙ c.labels.ensures.labels) refl c.in_ok-incidences.ensures.incidences c.deref.ensures.value c.in_ok-cross.ensures.moved c.in_ok-cross.ensures.seen;
      begins = (still_there _ c.loop-label.walk.reached.items c.loop-label.walk.rest.keys c.cross.new.walk.reached.items c.cross.new.walk.rest.keys 0 c.in_ok-cross.ensures.moved (omega (arith, c.loop-label.invariant.within.inside))).1 ∙ c.loop-label.invariant.begins;
      leads = c.in_ok-cross.ensures.leads;
    }

pub loop-next-preserved : goal.loop-next-preserved
loop-next-preserved c = record {
  spread = c.loop-label.invariant.within.spread;
  done = within_end c.args.complex.now (least_facet c.args.complex.now) c.loop-label.walk.reached.items c.loop-label.walk.rest.keys (contains face_cmp c.loop-label.walk.seen) c.loop-next.next c.as_slice-label-items.result.now c.loop-label.label-index c.loop-label.invariant.within c.loop-label-test.false;
  begins = c.loop-label.invariant.begins;
  leads = c.loop-label.invariant.leads;
}

pub returns : goal.returns
returns c = walk_end c.args.complex.now c.loop-next.walk.reached.items c.loop-next.walk.rest.keys (contains face_cmp c.loop-next.walk.seen) c.loop-next.walk.steps.items c.loop-next.next c.facets-facets.ensures.complex c.requires c.loop-next.invariant.spread c.loop-next.invariant.done (omega (arith, c.loop-next-test.false, c.len.ensures)) c.loop-next.invariant.begins c.loop-next.invariant.leads
