use Rattle.std.proofs.Common.{◌≡◌, ◌∙◌, sym}
use Rattle.pseudo_test.specs.Ridges.{count}
use Rattle.pseudo_test.proofs.Counted.{run_again, closed_at, least_at, passes_more, run_counts}
use Rattle.pseudo_test.proofs.ridges.closed.Goals as goal

pub count-count-requires : goal.count-count-requires
count-count-requires c = run_again c.in_ok-incidences.incidences.items c.deref.result.now c.over.result.now c.incidence-item.result.0 c.in_ok-incidences.ensures.rising c.deref.ensures.value c.over.ensures

pub returns-then-count-ne2 : goal.returns-then-count-ne2
returns-then-count-ne2 c =
    let n : c.count-count.result ≡ count c.args.complex.now.facets c.incidence-item.result.0 = c.count-count.ensures ∙ run_counts c.args.complex.now c.in_ok-incidences.incidences.items c.deref-incidence-items.result.now c.deref.result.now c.over.result.now c.loop-incidence.incidence-index c.incidence-item.result c.all_incidences.ensures.complex c.in_ok-incidences.ensures.incidences c.deref-incidence-items.ensures.value c.deref.ensures.value c.loop-incidence-test.true c.incidence-item.is c.over.ensures in
    least_at c.args.complex.now.facets c.deref-incidence-items.result.now c.loop-incidence.incidence-index c.incidence-item.result c.count-count.result (c.deref-incidence-items.ensures.value ∙ c.in_ok-incidences.ensures.incidences) c.loop-incidence-test.true c.incidence-item.is n c.if-count-ne2.true c.loop-incidence.invariant

pub loop-incidence-preserved : goal.loop-incidence-preserved
loop-incidence-preserved c =
    let n : c.count-count.result ≡ count c.args.complex.now.facets c.incidence-item.result.0 = c.count-count.ensures ∙ run_counts c.args.complex.now c.in_ok-incidences.incidences.items c.deref-incidence-items.result.now c.deref.result.now c.over.result.now c.loop-incidence.incidence-index c.incidence-item.result c.all_incidences.ensures.complex c.in_ok-incidences.ensures.incidences c.deref-incidence-items.ensures.value c.deref.ensures.value c.loop-incidence-test.true c.incidence-item.is c.over.ensures in
    passes_more (λ m. m ≡ 2) c.args.complex.now.facets c.deref-incidence-items.result.now c.loop-incidence.incidence-index c.incidence-item.result c.loop-incidence-test.true c.incidence-item.is (sym n ∙ c.if-count-ne2.false) c.loop-incidence.invariant

pub returns : goal.returns
returns c = closed_at c.args.complex.now.facets c.deref-incidence-items.result.now c.loop-incidence.incidence-index (c.deref-incidence-items.ensures.value ∙ c.in_ok-incidences.ensures.incidences) c.loop-incidence-test.false c.loop-incidence.invariant
