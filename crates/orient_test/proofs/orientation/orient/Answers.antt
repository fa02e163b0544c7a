use Rattle.std.proofs.Common.{◌≡◌, ◌∙◌, ℕ, List, length, get_or, map, arith, sym, ap, subst, false, Some}
use Rattle.std.specs.BTreeMap.{get}
use Rattle.complex_core.specs.Labels.{face_cmp}
use Rattle.complex_core.specs.Complexes.{is_facet}
use Rattle.pseudo_test.proofs.Spreading.{listed_at}
use Rattle.orient_test.specs.declared.search.Spread.{Spread}
use Rattle.orient_test.specs.Signs.{value, chosen}
use Rattle.orient_test.specs.Walks.{IsClash}
use Rattle.orient_test.specs.Spreads.{either, given, IsForced, IsSpread}
use Rattle.orient_test.proofs.Chains.{clash_excludes}
use Rattle.orient_test.proofs.Orienting.{forced_more, covers_more, covers_known, orients, is_orientable}
use Rattle.orient_test.proofs.orientation.orient.Goals as goal

pub loop-facet-preserved-then-contains_key : goal.loop-facet-preserved-then-contains_key
loop-facet-preserved-then-contains_key c = record {
  forced = c.loop-facet.invariant.forced;
  covers = covers_known c.args.complex.now.facets (get face_cmp c.loop-facet.signs) c.loop-facet.facet-index c.facet-item.result c.loop-facet.invariant.covers (sym c.contains_key.ensures ∙ c.if-contains_key.true)
      (c.facet-item.is ∙ ap (λ (fs : List (List ℕ)). get_or fs c.loop-facet.facet-index c.facet-item.result) c.facets-facet-items.ensures.facets)
      (omega (arith, c.loop-facet-test.true, ap length c.facets-facet-items.ensures.facets));
}

pub signs_from-requires-clause-start : goal.signs_from-requires-clause-start
signs_from-requires-clause-start c =
    ap (is_facet c.args.complex.now.facets) (c.facet-item.is ∙ ap (λ (fs : List (List ℕ)). get_or fs c.loop-facet.facet-index c.facet-item.result) c.facets-facet-items.ensures.facets)
    ∙ listed_at c.args.complex.now.facets c.loop-facet.facet-index c.facet-item.result (omega (arith, c.loop-facet-test.true, ap length c.facets-facet-items.ensures.facets))

pub returns-in-Clash-clause-decides : goal.returns-in-Clash-clause-decides
returns-in-Clash-clause-decides c =
    let P : Spread → Type 0 = λ o. IsSpread c.args.complex.now.facets c.facet-item.result o in
    let met : IsClash c.args.complex.now.facets c.in-Clash.chain.items = subst P c.in-Clash.is c.in_ok-reached.ensures in
    clash_excludes c.args.complex.now.facets c.in-Clash.chain.items met

pub loop-facet-preserved : goal.loop-facet-preserved
loop-facet-preserved c =
    let P : Spread → Type 0 = λ o. IsSpread c.args.complex.now.facets c.facet-item.result o in
    let met : (given c.in-Signed.reached.items c.facet-item.result ≡ Some false) × IsForced c.args.complex.now.facets (given c.in-Signed.reached.items) = subst P c.in-Signed.is c.in_ok-reached.ensures in
    let over : (f : List ℕ) → get face_cmp c.sign_all.new.signs f ≡ either (given c.in-Signed.reached.items f) (get face_cmp c.loop-facet.signs f) = λ f. c.in_ok-sign_all-in-Signed.ensures f ∙ ap (λ qs. either (given qs f) (get face_cmp c.loop-facet.signs f)) c.deref-in-Signed.ensures.value in
    record {
      forced = forced_more c.args.complex.now.facets c.in-Signed.reached.items (get face_cmp c.loop-facet.signs) (get face_cmp c.sign_all.new.signs) c.loop-facet.invariant.forced met.1 over;
      covers = covers_more c.args.complex.now.facets c.in-Signed.reached.items (get face_cmp c.loop-facet.signs) (get face_cmp c.sign_all.new.signs) c.loop-facet.facet-index c.facet-item.result c.loop-facet.invariant.covers over met.0
          (c.facet-item.is ∙ ap (λ (fs : List (List ℕ)). get_or fs c.loop-facet.facet-index c.facet-item.result) c.facets-facet-items.ensures.facets)
          (omega (arith, c.loop-facet-test.true, ap length c.facets-facet-items.ensures.facets));
    }

pub returns-clause-shown : goal.returns-clause-shown
returns-clause-shown c = orients c.args.complex.now.facets (get face_cmp c.loop-facet.signs) c.loop-facet.facet-index c.loop-facet.invariant.forced c.loop-facet.invariant.covers (omega (arith, c.loop-facet-test.false, ap length c.facets-facet-items.ensures.facets)) c.in_ok-in_order.field-0.items
    (c.in_ok-in_order.ensures ∙ ap (map (λ f. value (chosen (get face_cmp c.loop-facet.signs f)))) c.facets.ensures.facets)

pub returns-clause-decides : goal.returns-clause-decides
returns-clause-decides c = is_orientable c.args.complex.now.facets (get face_cmp c.loop-facet.signs) c.loop-facet.facet-index c.loop-facet.invariant.forced c.loop-facet.invariant.covers (omega (arith, c.loop-facet-test.false, ap length c.facets-facet-items.ensures.facets))
