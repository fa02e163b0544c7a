use Rattle.facet_text.proofs.ReadIsSpelled.{read_spelled}
use Rattle.facet_text.proofs.law.read_is_spelled.Goals as goal

pub returns : goal.returns
returns c bytes from k offset read = read_spelled bytes from k offset read
