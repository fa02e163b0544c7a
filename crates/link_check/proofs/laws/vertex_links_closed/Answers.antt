use Rattle.link_check.proofs.Vertices.{vertex_links_closed}
use Rattle.link_check.proofs.laws.vertex_links_closed.Goals as goal

pub returns : goal.returns
returns c = vertex_links_closed
