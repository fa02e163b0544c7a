use Rattle.std.proofs.Common.{◌≤◌, arith}
use Rattle.complex_core.specs.Maps.{used, greatest}
use Rattle.sphere_text.proofs.Fits.{greatest_at_most}
use Rattle.job_sphere.proofs.decision.decide.Goals as goal

pub search_sphere-requires-clause-labels : goal.search_sphere-requires-clause-labels
search_sphere-requires-clause-labels g c = let b : greatest (used c.args.complex.now.facets) ≤ 60000 = greatest_at_most c.args.complex.now c.requires.limits in omega (arith, b, c.requires.numbers.room)
