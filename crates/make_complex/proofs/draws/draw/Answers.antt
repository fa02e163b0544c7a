use Rattle.std.proofs.Common.{◌∙◌, ◌+◌, ◌%◌, sym}
use Rattle.make_complex.proofs.Choosing.{Drawn, drawn, drawn_on}
use Rattle.make_complex.proofs.draws.draw.Goals as goal

pub flip_of-requires-clause-stars : goal.flip_of-requires-clause-stars
flip_of-requires-clause-stars c = (c.args.complex.now, c.requires.stars, c.requires.low, (drawn c.args.complex.now c.dim.result c.dim-2.result c.args.words.facet c.args.words.index c.args.words.subset _ c.in_ok-first.first c.requires.stars.complex c.dim.ensures.dim c.dim-2.ensures.dim c.choose_facet-facet.ensures.facet c.in_ok-first.ensures).part)

pub flip_within-requires-clause-places : goal.flip_within-requires-clause-places
flip_within-requires-clause-places c = (c.in-Some.ensures c.args.complex.now c.requires.stars c.requires.low (drawn c.args.complex.now c.dim.result c.dim-2.result c.args.words.facet c.args.words.index c.args.words.subset _ c.in_ok-first.first c.requires.stars.complex c.dim.ensures.dim c.dim-2.ensures.dim c.choose_facet-facet.ensures.facet c.in_ok-first.ensures).part).0

pub returns-in-Some-clause-made : goal.returns-in-Some-clause-made
returns-in-Some-clause-made c =
    let d : Drawn c.args.complex.now (c.args.words.index % (c.dim.result + 1)) c.args.words.facet c.args.words.index c.args.words.subset c.in_ok-first.first = drawn c.args.complex.now c.dim.result c.dim-2.result c.args.words.facet c.args.words.index c.args.words.subset _ c.in_ok-first.first c.requires.stars.complex c.dim.ensures.dim c.dim-2.ensures.dim c.choose_facet-facet.ensures.facet c.in_ok-first.ensures in
    drawn_on c.args.complex.now _ (c.args.words.index % (c.dim.result + 1)) c.args.words.facet c.args.words.index c.args.words.subset c.in_ok-first.first c.in-Some.flip _ d (c.in-Some.ensures c.args.complex.now c.requires.stars c.requires.low d.part).1 c.flip_within.ensures.made

pub returns-in-None-clause-made : goal.returns-in-None-clause-made
returns-in-None-clause-made c =
    let d : Drawn c.args.complex.now (c.args.words.index % (c.dim.result + 1)) c.args.words.facet c.args.words.index c.args.words.subset c.in_ok-first.first = drawn c.args.complex.now c.dim.result c.dim-2.result c.args.words.facet c.args.words.index c.args.words.subset _ c.in_ok-first.first c.requires.stars.complex c.dim.ensures.dim c.dim-2.ensures.dim c.choose_facet-facet.ensures.facet c.in_ok-first.ensures in
    sym (c.in-None.ensures c.args.complex.now c.requires.stars c.requires.low d.part) ∙ d.made
