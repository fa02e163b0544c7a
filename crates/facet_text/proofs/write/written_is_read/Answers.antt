use Rattle.facet_text.proofs.Again.{read_again}
use Rattle.facet_text.proofs.write.written_is_read.Goals as goal

pub returns : goal.returns
returns c before after k keeps = read_again before after k keeps
