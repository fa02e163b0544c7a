use Rattle.std.proofs.Common.{◌∙◌, ap}
use Rattle.pseudo_test.specs.Incidences.{run_of}
use Rattle.orient_test.proofs.Neighbours.{incidences_rise, none_met, found_one, found_none}
use Rattle.orient_test.proofs.search.neighbour.Goals as goal

pub over-run-requires : goal.over-run-requires
over-run-requires c = incidences_rise c.args.complex.now.facets c.args.incidences.now c.requires.incidences

pub returns-then-run-ne2 : goal.returns-then-run-ne2
returns-then-run-ne2 c = none_met c.args.complex.now c.facets.ensures.complex c.args.facet.now c.args.label c.requires.facet c.requires.label c.over-run.result.now c.args.incidences.now c.requires.incidences (c.over-run.ensures ∙ ap (run_of c.args.incidences.now) c.without-ridge.ensures) c.if-run-ne2.true

pub returns-in-Some : goal.returns-in-Some
returns-in-Some c = found_one c.args.complex.now c.facets.ensures.complex c.args.facet.now c.args.label c.requires.facet c.requires.label c.without-ridge.result c.over-run.result.now c.args.incidences.now c.other_label-taken.result c.in-Some.other c.place_of.result c.place_of-in-Some.result c.without-ridge.ensures c.requires.incidences c.over-run.ensures c.if-run-ne2.false c.other_label-taken.ensures c.in-Some.ensures.1 c.place_of.ensures c.place_of-in-Some.ensures

pub returns-in-None : goal.returns-in-None
returns-in-None c = absurd (c.in-None.ensures (found_none c.args.complex.now c.facets.ensures.complex c.args.facet.now c.args.label c.requires.facet c.requires.label c.without-ridge.result c.over-run.result.now c.args.incidences.now c.other_label-taken.result c.without-ridge.ensures c.requires.incidences c.over-run.ensures c.if-run-ne2.false c.other_label-taken.ensures))
