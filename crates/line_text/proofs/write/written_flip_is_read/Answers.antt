use Rattle.line_text.proofs.Again.{read_again}
use Rattle.line_text.proofs.write.written_flip_is_read.Goals as goal

pub returns : goal.returns
returns c labels before after f has = read_again labels before after f has
