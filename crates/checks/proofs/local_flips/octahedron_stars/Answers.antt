use Rattle.stars.proofs.Mapping.{shown_stars}
use Rattle.checks.proofs.local_flips.octahedron_stars.Goals as goal

pub returns : goal.returns
returns c = (c.in_ok-octahedron.octahedron, shown_stars _ _ _ c.into_stars.ensures c.in_ok-of.ensures.stars)
