use Rattle.std.proofs.Common.{rules}
use Rattle.facet_text.specs.Grammar.{Gives, after_list, complex_at}
use Rattle.facet_text.proofs.ReadIsSpelled.{given_limits}
use Rattle.facet_text.proofs.read.read_complex.Goals as goal

pub returns-clause-limits : goal.returns-clause-limits
unfolding after_list
returns-clause-limits c =
    let read : Gives c.keep_limits.result (complex_at c.args.bytes.now c.args.from) = search rules in
    given_limits c.keep_limits.result c.args.bytes.now c.args.from read
