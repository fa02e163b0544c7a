use Rattle.complex_core.proofs.Lanes.{has_lane, eight_lanes}
use Rattle.complex_core.proofs.face.Face.lanes.Goals as goal

pub returns-clause-eight : goal.returns-clause-eight
returns-clause-eight c = eight_lanes c.self.inside.bits

pub returns-clause-lanes : goal.returns-clause-lanes
returns-clause-lanes c = has_lane c.self.inside.bits c.args.self.now c.self.invariant c.self.view_is
