use Rattle.std.proofs.Common.{◌≡◌, ◌∙◌, ◌<◌, not, cond, length, ap, sym, arith, Some, None}
use mathlib.Core.Bool.{beq}
use Rattle.std.specs.Ordering.{is_eq}
use Rattle.std.specs.BTreeMap.{get}
use Rattle.complex_core.specs.Labels.{face_cmp}
use Rattle.complex_core.specs.Complexes.{is_facet}
use Rattle.orient_test.specs.declared.search.Reached.{Reached}
use Rattle.orient_test.specs.Signs.{times}
use Rattle.orient_test.specs.Spreads.{at}
use Rattle.orient_test.proofs.Chains.{same_place}
use Rattle.orient_test.proofs.Trees.{tree_facet, crossed_known, contradicted, crossed_new, placed_new, other_sign, same_sign, opposite_one}
use Rattle.orient_test.proofs.search.cross.Goals as goal

pub neighbour-requires-clause-facet : goal.neighbour-requires-clause-facet
neighbour-requires-clause-facet c = ap (λ (r : Reached). is_facet c.args.complex.now.facets r.facet) (c.index.ensures ∙ same_place c.args.reached.now.items c.args.next c.index.result.now c.requires.next) ∙ tree_facet c.args.complex.now.facets c.args.reached.now.items c.args.next c.requires.tree c.requires.next

pub index-requires-in-Some-copied : goal.index-requires-in-Some-copied
index-requires-in-Some-copied c = omega (arith, (c.requires.placed.there c.in-Some.other.facet c.in-Some-copied.position (sym (c.in-Some-copied.ensures ∙ c.get.ensures.value))).0)

pub returns-then-index-forced-clause-crossed : goal.returns-then-index-forced-clause-crossed
returns-then-index-forced-clause-crossed c =
    let rs = c.args.reached.now.items in
    let f : c.index.result.now ≡ at c.args.reached.now.items c.args.next = c.index.ensures ∙ same_place c.args.reached.now.items c.args.next c.index.result.now c.requires.next in
    let ff : c.index.result.now.facet ≡ (at c.args.reached.now.items c.args.next).facet = ap (λ (r : Reached). r.facet) f in
    let ft : c.index.result.now.turned ≡ (at c.args.reached.now.items c.args.next).turned = ap (λ (r : Reached). r.turned) f in
    let there : get face_cmp c.args.places.now c.in-Some.other.facet ≡ Some c.in-Some-copied.position = sym (c.in-Some-copied.ensures ∙ c.get.ensures.value) in
    let inside : c.in-Some-copied.position < length c.args.reached.now.items = (c.requires.placed.there c.in-Some.other.facet c.in-Some-copied.position there).0 in
    let g : c.index-in-Some-copied.result.now.turned ≡ (at c.args.reached.now.items c.in-Some-copied.position).turned = ap (λ (r : Reached). r.turned) (c.index-in-Some-copied.ensures ∙ same_place c.args.reached.now.items c.in-Some-copied.position c.index-in-Some-copied.result.now inside) in
    crossed_known c.args.complex.now.facets rs c.args.next c.args.label c.index.result.now.facet c.in-Some.other.facet c.in-Some.other.turns (get face_cmp c.args.places.now) c.in-Some-copied.position c.requires.tree ff c.in-Some.ensures c.requires.placed there (sym g ∙ same_sign c.index-in-Some-copied.result.now.turned c.index.result.now.turned c.in-Some.other.turns c.if-index-forced.true ∙ ap (λ b. times b c.in-Some.other.turns) ft)

pub returns-else-index-forced-clause-crossed : goal.returns-else-index-forced-clause-crossed
returns-else-index-forced-clause-crossed c =
    let rs = c.args.reached.now.items in
    let f : c.index.result.now ≡ at c.args.reached.now.items c.args.next = c.index.ensures ∙ same_place c.args.reached.now.items c.args.next c.index.result.now c.requires.next in
    let ff : c.index.result.now.facet ≡ (at c.args.reached.now.items c.args.next).facet = ap (λ (r : Reached). r.facet) f in
    let ft : c.index.result.now.turned ≡ (at c.args.reached.now.items c.args.next).turned = ap (λ (r : Reached). r.turned) f in
    let there : get face_cmp c.args.places.now c.in-Some.other.facet ≡ Some c.in-Some-copied.position = sym (c.in-Some-copied.ensures ∙ c.get.ensures.value) in
    let inside : c.in-Some-copied.position < length c.args.reached.now.items = (c.requires.placed.there c.in-Some.other.facet c.in-Some-copied.position there).0 in
    let g : c.index-in-Some-copied.result.now.turned ≡ (at c.args.reached.now.items c.in-Some-copied.position).turned = ap (λ (r : Reached). r.turned) (c.index-in-Some-copied.ensures ∙ same_place c.args.reached.now.items c.in-Some-copied.position c.index-in-Some-copied.result.now inside) in
    contradicted c.args.complex.now.facets rs c.args.next c.args.label c.index.result.now.facet c.in-Some.other.facet c.in-Some.other.turns (get face_cmp c.args.places.now) c.in-Some-copied.position ff c.in-Some.ensures c.requires.placed there (sym g ∙ opposite_one c.index-in-Some-copied.result.now.turned c.index.result.now.turned c.in-Some.other.turns c.if-index-forced.false ∙ ap (λ b. not (times b c.in-Some.other.turns)) ft)

pub returns-in_ok-push-in-None-clause-placed : goal.returns-in_ok-push-in-None-clause-placed
returns-in_ok-push-in-None-clause-placed c =
    let absent : get face_cmp c.args.places.now c.in-Some.other.facet ≡ None = sym (sym c.in-None.is ∙ c.copied.ensures ∙ c.get.ensures.value) in
    let long : c.len.result ≡ length c.args.reached.now.items = omega (arith, c.len.ensures) in
    placed_new c.args.reached.now.items c.push.new.self.items c.in-Some.other.facet (not (beq c.index.result.now.turned c.in-Some.other.turns)) c.args.next (get face_cmp c.args.places.now) (get face_cmp c.insert.new.self) c.requires.placed absent c.in_ok-push-in-None.ensures.items (λ q. c.in_ok-insert-in-None.ensures.updates.0 q ∙ ap (λ n. cond (is_eq (face_cmp c.in-Some.other.facet q)) (Some n) (get face_cmp c.args.places.now q)) long)

pub returns-in_ok-push-in-None-clause-crossed : goal.returns-in_ok-push-in-None-clause-crossed
returns-in_ok-push-in-None-clause-crossed c =
    let rs = c.args.reached.now.items in
    let f : c.index.result.now ≡ at c.args.reached.now.items c.args.next = c.index.ensures ∙ same_place c.args.reached.now.items c.args.next c.index.result.now c.requires.next in
    let ff : c.index.result.now.facet ≡ (at c.args.reached.now.items c.args.next).facet = ap (λ (r : Reached). r.facet) f in
    let ft : c.index.result.now.turned ≡ (at c.args.reached.now.items c.args.next).turned = ap (λ (r : Reached). r.turned) f in
    let absent : get face_cmp c.args.places.now c.in-Some.other.facet ≡ None = sym (sym c.in-None.is ∙ c.copied.ensures ∙ c.get.ensures.value) in
    crossed_new c.args.complex.now.facets rs c.push.new.self.items c.args.next c.args.label c.index.result.now.facet c.in-Some.other.facet c.in-Some.other.turns (not (beq c.index.result.now.turned c.in-Some.other.turns)) (get face_cmp c.args.places.now) c.requires.tree c.requires.next ff c.in-Some.ensures c.requires.placed absent (other_sign c.index.result.now.turned c.in-Some.other.turns ∙ ap (λ b. times b c.in-Some.other.turns) ft) c.in_ok-push-in-None.ensures.items
