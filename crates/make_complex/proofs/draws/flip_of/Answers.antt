use Rattle.std.proofs.Common.{rules}
use Rattle.make_complex.proofs.Choosing.{no_label, some_label, positive_label, first_has, first_is_low, first_is_place, flip_found_on}
use Rattle.make_complex.proofs.draws.flip_of.Goals as goal

pub returns-in_err-label : goal.returns-in_err-label
returns-in_err-label c = λ k h dim s. no_label k c.args.stars.now c.args.index c.args.first.now _ c.from_residual.ensures c.if-index-eq0.true c.requires.places h dim s (c.in_err-label.ensures k h)

pub single-requires : goal.single-requires
single-requires c = positive_label c.requires.stars.0 c.args.stars.now _ c.requires.stars.1 (c.in_ok-label.ensures c.requires.stars.0 c.requires.stars.1)

pub returns-then-index-eq0 : goal.returns-then-index-eq0
returns-then-index-eq0 c = λ k h dim s. some_label k c.args.stars.now c.args.index c.args.first.now _ _ c.single.ensures c.if-index-eq0.true h s (c.in_ok-label.ensures k h)

pub star-near-requires-clause-low : goal.star-near-requires-clause-low
star-near-requires-clause-low c = first_is_low c.args.first.now _ c.label.ensures.face (first_has c.requires.stars.0 c.args.index c.args.first.now c.requires.stars.3) c.label.ensures.label

pub star-near-requires-clause-high : goal.star-near-requires-clause-high
star-near-requires-clause-high c = first_is_place c.requires.stars.0 c.args.stars.now c.args.index c.args.first.now _ c.requires.stars.1 c.requires.stars.3 c.label.ensures.label

pub returns : goal.returns
returns c = λ k h dim s. flip_found_on k c.args.stars.now c.args.index c.label.result c.dim.result c.star-near.result.now.star c.rows.result.now c.args.first.now _ h (search rules) s c.label.ensures.label c.dim.ensures c.rows.ensures.rows c.star-near.ensures c.flip_at.ensures
