use Rattle.std.proofs.Common.{arith}
use Rattle.flip_options.proofs.Looking.{places_next}
use Rattle.flip_options.proofs.Making.{of_made}
use Rattle.flip_options.proofs.options.Options.of.Goals as goal

pub loop-place-preserved : goal.loop-place-preserved
loop-place-preserved c = places_next _ _ _ _ _ c.loop-place.invariant c.in_ok-look_at_place.ensures

pub returns : goal.returns
returns c = of_made c.args.stars.now c.new-candidates.result c.loop-place.candidates c.loop-place.place c.new-candidates.ensures.empty c.loop-place.invariant (omega (arith, c.places-place-end.ensures, c.loop-place-test.false)) c.len-ordered.ensures.ordered
