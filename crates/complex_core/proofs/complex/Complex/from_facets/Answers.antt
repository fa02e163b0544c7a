use Rattle.std.proofs.Common.{arith, ◌∙◌, ap}
use Rattle.complex_core.specs.Labels.{face_cmp}
use Rattle.complex_core.specs.Rising.{rising}
use Rattle.complex_core.proofs.Exchanges.{rising_itself}
use Rattle.complex_core.proofs.Sorting.{Sized, all_sized, made_complex, can_make}
use Rattle.complex_core.proofs.complex.Complex.from_facets.Goals as goal

pub invariant_of-result : goal.invariant_of-result
invariant_of-result c =
    let h : Sized c.len-size.result c.args.facets.now = all_sized _ _ _ (omega arith) c.loop-position.invariant in
    rw (c.sort_sets.ensures, c.in_ok-all.ensures.items) (made_complex c.len-size.result c.args.facets.now c.in-Some.ensures.item.3.0 c.if-size-eq0.false c.if-size-eq8.false h)

pub returns-clause-can : goal.returns-clause-can
returns-clause-can c = can_make c.len-size.result c.args.facets.now c.in-Some.ensures.item.3.0 c.if-size-eq0.false c.if-size-eq8.false (all_sized _ _ _ (omega arith) c.loop-position.invariant)

pub returns-clause-own : goal.returns-clause-own
returns-clause-own c = λ own. c.sort_sets.ensures ∙ ap (rising face_cmp) c.in_ok-all.ensures.items ∙ rising_itself c.args.facets.now own
