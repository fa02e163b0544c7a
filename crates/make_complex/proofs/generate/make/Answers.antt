use Rattle.std.proofs.Common.{◌≡◌, ◌∙◌, ap, ◌-◌, ◌+◌, subst, sym}
use Rattle.std.proofs.Common.{arith}
use Rattle.complex_core.specs.Complexes.{ComplexView, IsComplex}
use Rattle.stars.specs.StarViews.{UsesUpTo}
use Rattle.make_complex.specs.Named.{named_complex, named_euler}
use Rattle.make_complex.specs.Draws.{made_complex}
use Rattle.make_complex.specs.Words.{generator}
use Rattle.make_complex.proofs.Drawing.{way_goes, way_ends, made_few}
use Rattle.make_complex.proofs.Flipping.{few_labels}
use Rattle.make_complex.proofs.Drawing.{way_uses}
use Rattle.make_complex.proofs.Facts.{Looks, named_small, made_looks}
use Rattle.make_complex.proofs.generate.make.Goals as goal

pub of-requires : goal.of-requires
of-requires c = let P : ComplexView → Type 0 = λ k. UsesUpTo k 4096 in subst P (sym c.in_ok-complex.ensures) (named_small c.args.kind c.args.dim c.requires.low c.requires.high c.requires.surface).uses

pub loop-preserved : goal.loop-preserved
loop-preserved c =
    way_goes (made_complex c.args.kind c.args.dim c.args.draws c.args.seed) c.loop.complex c.draw.new.complex c.loop.stars c.draw.new.stars c.loop.words c.draw_words-drawn.new.words _ _ _ (c.args.draws - c.loop.counter) (c.args.draws - (c.loop.counter + 1)) (omega (arith, c.loop-test.true)) c.loop.invariant
    c.draw_words-drawn.ensures.facet c.draw_words-drawn.ensures.index c.draw_words-drawn.ensures.subset c.draw_words-drawn.ensures.after c.in_ok-draw.ensures.made c.in_ok-draw.ensures.stars c.in_ok-draw.ensures.places

pub returns-clause-facets : goal.returns-clause-facets
returns-clause-facets c =
    made_few (named_complex c.args.kind c.args.dim) c.loop.complex (generator c.args.seed) c.args.draws (named_small c.args.kind c.args.dim c.requires.low c.requires.high c.requires.surface).few (way_ends _ c.loop.complex c.loop.stars c.loop.words _ (omega (arith, c.loop-test.false)) c.loop.invariant)

pub returns-clause-dim : goal.returns-clause-dim
returns-clause-dim c =
    (made_looks c.args.kind c.args.dim c.args.draws c.args.seed c.loop.complex c.requires.low c.requires.high (subst IsComplex c.in_ok-complex.ensures c.in_ok-stars.ensures.stars.complex) (way_ends _ c.loop.complex c.loop.stars c.loop.words _ (omega (arith, c.loop-test.false)) c.loop.invariant)).1

pub returns-clause-closed : goal.returns-clause-closed
returns-clause-closed c =
    (made_looks c.args.kind c.args.dim c.args.draws c.args.seed c.loop.complex c.requires.low c.requires.high (subst IsComplex c.in_ok-complex.ensures c.in_ok-stars.ensures.stars.complex) (way_ends _ c.loop.complex c.loop.stars c.loop.words _ (omega (arith, c.loop-test.false)) c.loop.invariant)).0.closed

pub returns-clause-strong : goal.returns-clause-strong
returns-clause-strong c =
    (made_looks c.args.kind c.args.dim c.args.draws c.args.seed c.loop.complex c.requires.low c.requires.high (subst IsComplex c.in_ok-complex.ensures c.in_ok-stars.ensures.stars.complex) (way_ends _ c.loop.complex c.loop.stars c.loop.words _ (omega (arith, c.loop-test.false)) c.loop.invariant)).0.strong

pub returns-clause-orientable : goal.returns-clause-orientable
returns-clause-orientable c =
    (made_looks c.args.kind c.args.dim c.args.draws c.args.seed c.loop.complex c.requires.low c.requires.high (subst IsComplex c.in_ok-complex.ensures c.in_ok-stars.ensures.stars.complex) (way_ends _ c.loop.complex c.loop.stars c.loop.words _ (omega (arith, c.loop-test.false)) c.loop.invariant)).0.orientable

pub returns-clause-euler : goal.returns-clause-euler
returns-clause-euler c =
    let p : Looks c.args.kind c.loop.complex × (c.loop.complex.dim ≡ c.args.dim) = made_looks c.args.kind c.args.dim c.args.draws c.args.seed c.loop.complex c.requires.low c.requires.high (subst IsComplex c.in_ok-complex.ensures c.in_ok-stars.ensures.stars.complex) (way_ends _ c.loop.complex c.loop.stars c.loop.words _ (omega (arith, c.loop-test.false)) c.loop.invariant) in
    p.0.euler ∙ ap (named_euler c.args.kind) p.1

pub returns-clause-labels : goal.returns-clause-labels
returns-clause-labels c = few_labels c.loop.complex c.loop.invariant.stars.complex (way_uses _ c.loop.complex c.loop.stars c.loop.words _ c.loop.invariant)
