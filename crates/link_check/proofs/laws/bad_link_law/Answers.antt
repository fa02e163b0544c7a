use Rattle.link_check.proofs.Judged.{bad_link_law}
use Rattle.link_check.proofs.laws.bad_link_law.Goals as goal

pub returns : goal.returns
returns c = bad_link_law
