use Rattle.std.proofs.Common.{◌≡◌, ◌∙◌, ◌≤◌, true, length, sym, refl, arith}
use Rattle.pseudo_test.specs.Ridges.{count}
use Rattle.pseudo_test.proofs.Counted.{thin_at, not_thin, passes_more, run_counts}
use Rattle.pseudo_test.proofs.ridges.thin.Goals as goal
use Rattle.complex_core.proofs.SubsetLists.{clash}

pub returns-then-over-gt2 : goal.returns-then-over-gt2
returns-then-over-gt2 c =
    let n : length c.over.result.now ≡ count c.args.complex.now.facets c.incidence-item.result.0 = run_counts c.args.complex.now c.in_ok-incidences.incidences.items c.deref-incidence-items.result.now c.deref.result.now c.over.result.now c.loop-incidence.incidence-index c.incidence-item.result c.all_incidences.ensures.complex c.in_ok-incidences.ensures.incidences c.deref-incidence-items.ensures.value c.deref.ensures.value c.loop-incidence-test.true c.incidence-item.is c.over.ensures in
    (λ e. clash true refl (sym e), λ t. absurd (not_thin c.args.complex.now.facets c.deref-incidence-items.result.now c.loop-incidence.incidence-index c.incidence-item.result (c.deref-incidence-items.ensures.value ∙ c.in_ok-incidences.ensures.incidences) c.loop-incidence-test.true c.incidence-item.is (omega (arith, n, c.if-over-gt2.true)) t))

pub loop-incidence-preserved : goal.loop-incidence-preserved
loop-incidence-preserved c =
    let n : length c.over.result.now ≡ count c.args.complex.now.facets c.incidence-item.result.0 = run_counts c.args.complex.now c.in_ok-incidences.incidences.items c.deref-incidence-items.result.now c.deref.result.now c.over.result.now c.loop-incidence.incidence-index c.incidence-item.result c.all_incidences.ensures.complex c.in_ok-incidences.ensures.incidences c.deref-incidence-items.ensures.value c.deref.ensures.value c.loop-incidence-test.true c.incidence-item.is c.over.ensures in
    passes_more (λ m. m ≤ 2) c.args.complex.now.facets c.deref-incidence-items.result.now c.loop-incidence.incidence-index c.incidence-item.result c.loop-incidence-test.true c.incidence-item.is (omega (arith, n, c.if-over-gt2.false)) c.loop-incidence.invariant

pub returns : goal.returns
returns c = (λ _. thin_at c.args.complex.now.facets c.deref-incidence-items.result.now c.loop-incidence.incidence-index (c.deref-incidence-items.ensures.value ∙ c.in_ok-incidences.ensures.incidences) c.loop-incidence-test.false c.loop-incidence.invariant, λ _. refl)
