use Rattle.std.proofs.Common.{rules, None, arith, ◌<◌, ◌∷◌, [], true, not, sym, ap, ◌∙◌, length, get_or, refl, nat_cmp}
use Rattle.std.specs.Cmp.{first_so}
use Rattle.complex_core.specs.Rising.{rising}
use Rattle.complex_core.proofs.SubsetLists.{clash}
use Rattle.std.proofs.lemmas.Bool.{not-true}
use Rattle.complex_core.specs.Labels.{has}
use Rattle.complex_core.proofs.Members.{has_place}
use Rattle.std.proofs.lemmas.List.{length-append, take_all}
use Rattle.facet_iso.specs.Searches.{alike}
use Rattle.facet_iso.proofs.Trying.{sound_of}
use Rattle.facet_iso.proofs.Ordered.{all_labels, answer_whole, not_longer, cannot_follow, grows, none_more, when_least, when_none, popped, begun_next, least_follows, none_follows}
use Rattle.facet_iso.proofs.search.+least_from.Goals as goal

pub map_of-requires-clause-order : goal.map_of-requires-clause-order
map_of-requires-clause-order t c = ap (rising nat_cmp) c.deref.ensures.value ∙ all_labels c.args.first.now c.args.second.now c.args.search.now c.requires.search c.args.facet.now c.requires.facet c.args.order.now.items c.requires.begun (search rules)

pub returns-then-len-clause-least : goal.returns-then-len-clause-least
returns-then-len-clause-least t c = (answer_whole c.args.first.now c.args.second.now c.args.search.now c.requires.search c.args.facet.now c.requires.facet c.args.order.now.items c.requires.begun c.map_of.result (search rules) (search rules)).0

pub returns-then-len-clause-none : goal.returns-then-len-clause-none
returns-then-len-clause-none t c = (answer_whole c.args.first.now c.args.second.now c.args.search.now c.requires.search c.args.facet.now c.requires.facet c.args.order.now.items c.requires.begun c.map_of.result (search rules) (search rules)).1

pub loop-label-init : goal.loop-label-init
loop-label-init t c = record { same = refl; none = λ y u. clash true refl (sym u) }

pub may_follow-requires-clause-sound : goal.may_follow-requires-clause-sound
may_follow-requires-clause-sound t c = sound_of c.args.first.now c.args.second.now c.args.search.now c.requires.search

pub may_follow-requires-clause-more : goal.may_follow-requires-clause-more
may_follow-requires-clause-more t c =
    let short : length c.args.order.now.items < length c.args.search.now.least = omega (arith, not_longer c.args.first.now c.args.second.now c.args.search.now c.requires.search c.args.facet.now c.requires.facet c.args.order.now.items c.requires.begun, c.if-len.false, c.len.ensures, c.len-2.ensures.len) in
    omega (arith, short, ap length (c.deref-in-loop-label.ensures.value ∙ c.loop-label.invariant.same))

pub loop-label-preserved-then-not-may_follow : goal.loop-label-preserved-then-not-may_follow
loop-label-preserved-then-not-may_follow t c =
    let short : length c.args.order.now.items < length c.args.search.now.least = omega (arith, not_longer c.args.first.now c.args.second.now c.args.search.now c.requires.search c.args.facet.now c.requires.facet c.args.order.now.items c.requires.begun, c.if-len.false, c.len.ensures, c.len-2.ensures.len) in
    record {
      same = c.loop-label.invariant.same;
      none = none_more c.args.first.now c.args.second.now c.args.search.now c.requires.search c.args.facet.now c.requires.facet c.args.order.now.items c.requires.begun c.as_slice-label-items.result.now c.loop-label.label-index c.loop-label-test.true c.loop-label.invariant.none (cannot_follow c.args.first.now c.args.second.now c.args.search.now c.requires.search c.args.facet.now c.requires.facet c.args.order.now.items c.requires.begun (get_or c.as_slice-label-items.result.now c.loop-label.label-index 0) c.deref-in-loop-label.result.now (c.deref-in-loop-label.ensures.value ∙ c.loop-label.invariant.same) short (sym c.may_follow.ensures ∙ c.if-not-may_follow.true));
    }

pub least_from-requires : goal.least_from-requires
least_from-requires t c =
    let short : length c.args.order.now.items < length c.args.search.now.least = omega (arith, not_longer c.args.first.now c.args.second.now c.args.search.now c.requires.search c.args.facet.now c.requires.facet c.args.order.now.items c.requires.begun, c.if-len.false, c.len.ensures, c.len-2.ensures.len) in
    (omega (arith, short, c.decreases, ap length c.in_ok-push.ensures.items, ap length c.loop-label.invariant.same, length-append c.loop-label.order.items ((get_or c.as_slice-label-items.result.now c.loop-label.label-index 0) ∷ [])), (c.requires.search, (c.requires.facet, begun_next c.args.first.now c.args.second.now c.args.search.now c.requires.search c.args.facet.now c.requires.facet c.args.order.now.items c.requires.begun (get_or c.as_slice-label-items.result.now c.loop-label.label-index 0) c.loop-label.order.items c.push.new.self.items c.loop-label.invariant.same c.in_ok-push.ensures.items None (grows c.args.first.now c.args.second.now c.args.search.now c.requires.search c.args.facet.now c.requires.facet c.args.order.now.items c.requires.begun (get_or c.as_slice-label-items.result.now c.loop-label.label-index 0) (ap (λ f. has f (get_or c.as_slice-label-items.result.now c.loop-label.label-index 0)) (sym (c.as_slice-label-items.ensures ∙ c.labels.ensures.labels)) ∙ has_place c.as_slice-label-items.result.now c.loop-label.label-index c.loop-label-test.true) (not-true (has c.args.order.now.items (get_or c.as_slice-label-items.result.now c.loop-label.label-index 0)) (ap (λ o. not (has o (get_or c.as_slice-label-items.result.now c.loop-label.label-index 0))) (sym (c.deref-in-loop-label.ensures.value ∙ c.loop-label.invariant.same)) ∙ first_so (not (has c.deref-in-loop-label.result.now (get_or c.as_slice-label-items.result.now c.loop-label.label-index 0))) (alike c.args.search.now (get_or c.args.search.now.least (length c.deref-in-loop-label.result.now) 0) (get_or c.as_slice-label-items.result.now c.loop-label.label-index 0)) (sym c.may_follow.ensures ∙ c.if-not-may_follow.false)))))))

pub returns-in-Some-clause-least : goal.returns-in-Some-clause-least
returns-in-Some-clause-least t c =
    let short : length c.args.order.now.items < length c.args.search.now.least = omega (arith, not_longer c.args.first.now c.args.second.now c.args.search.now c.requires.search c.args.facet.now c.requires.facet c.args.order.now.items c.requires.begun, c.if-len.false, c.len.ensures, c.len-2.ensures.len) in
    least_follows c.args.first.now c.args.second.now c.args.search.now c.requires.search c.args.facet.now c.requires.facet c.args.order.now.items c.requires.begun c.as_slice-label-items.result.now c.loop-label.label-index (get_or c.as_slice-label-items.result.now c.loop-label.label-index 0) c.in-Some.map (c.as_slice-label-items.ensures ∙ c.labels.ensures.labels) short c.loop-label-test.true refl c.loop-label.invariant.none (when_least c.args.first.now c.args.second.now c.args.search.now c.requires.search c.args.facet.now c.requires.facet c.args.order.now.items c.requires.begun (get_or c.as_slice-label-items.result.now c.loop-label.label-index 0) c.loop-label.order.items c.push.new.self.items c.loop-label.invariant.same c.in_ok-push.ensures.items c.in_ok-map.field-0 c.in-Some.map c.in_ok-map.ensures.least c.in-Some.is)

pub loop-label-preserved : goal.loop-label-preserved
loop-label-preserved t c = record {
  same = popped c.args.first.now c.args.second.now c.args.search.now c.requires.search c.args.facet.now c.requires.facet c.args.order.now.items c.requires.begun (get_or c.as_slice-label-items.result.now c.loop-label.label-index 0) c.loop-label.order.items c.push.new.self.items c.loop-label.invariant.same c.in_ok-push.ensures.items c.in_ok-map.field-0 c.least_from.new.order.items c.pop.new.self.items _ c.in_ok-map.ensures.back c.in_default.is c.pop.ensures.rest (search rules);
  none = none_more c.args.first.now c.args.second.now c.args.search.now c.requires.search c.args.facet.now c.requires.facet c.args.order.now.items c.requires.begun c.as_slice-label-items.result.now c.loop-label.label-index c.loop-label-test.true c.loop-label.invariant.none (when_none c.args.first.now c.args.second.now c.args.search.now c.requires.search c.args.facet.now c.requires.facet c.args.order.now.items c.requires.begun (get_or c.as_slice-label-items.result.now c.loop-label.label-index 0) c.loop-label.order.items c.push.new.self.items c.loop-label.invariant.same c.in_ok-push.ensures.items c.in_ok-map.field-0 c.in_ok-map.ensures.none c.in_default.is);
}

pub returns-clause-none : goal.returns-clause-none
returns-clause-none t c =
    let short : length c.args.order.now.items < length c.args.search.now.least = omega (arith, not_longer c.args.first.now c.args.second.now c.args.search.now c.requires.search c.args.facet.now c.requires.facet c.args.order.now.items c.requires.begun, c.if-len.false, c.len.ensures, c.len-2.ensures.len) in
    none_follows c.args.first.now c.args.second.now c.args.search.now c.requires.search c.args.facet.now c.requires.facet c.args.order.now.items c.requires.begun short (λ y u. c.loop-label.invariant.none y (ap (λ ys. has ys y) (take_all c.loop-label.label-index c.as_slice-label-items.result.now c.loop-label-test.false ∙ c.as_slice-label-items.ensures ∙ c.labels.ensures.labels) ∙ u))
