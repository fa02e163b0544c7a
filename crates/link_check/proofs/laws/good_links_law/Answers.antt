use Rattle.link_check.proofs.Vertices.{good_links_law}
use Rattle.link_check.proofs.laws.good_links_law.Goals as goal

pub returns : goal.returns
returns c = good_links_law
