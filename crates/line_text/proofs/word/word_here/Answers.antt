use Rattle.std.proofs.Common.{arith}
use Rattle.facet_text.proofs.LineLaws.{all_ended, ended}
use Rattle.line_text.proofs.LineLaws.{same_at_end}
use Rattle.line_text.proofs.word.word_here.Goals as goal

pub returns-else-word-eq0-clause-item : goal.returns-else-word-eq0-clause-item
returns-else-word-eq0-clause-item c =
    ended c.args.bytes.now c.args.from c.in-Some.word.feeds c.line_end.result _ (omega arith) c.in-Some.ensures.first c.line_end.ensures.end

pub returns-in-None-clause-item : goal.returns-in-None-clause-item
returns-in-None-clause-item c = all_ended c.args.bytes.now c.args.from c.line_end-in-None.result c.in-None.ensures.first c.line_end-in-None.ensures.end

pub returns-else-word-eq0-clause-end : goal.returns-else-word-eq0-clause-end
returns-else-word-eq0-clause-end c =
    same_at_end c.args.bytes.now c.args.from c.line_end.result (ended c.args.bytes.now c.args.from c.in-Some.word.feeds c.line_end.result _ (omega arith) c.in-Some.ensures.first c.line_end.ensures.end) c.line_end.ensures.end

pub returns-in-None-clause-end : goal.returns-in-None-clause-end
returns-in-None-clause-end c =
    same_at_end c.args.bytes.now c.args.from c.line_end-in-None.result (all_ended c.args.bytes.now c.args.from c.line_end-in-None.result c.in-None.ensures.first c.line_end-in-None.ensures.end) c.line_end-in-None.ensures.end
