use Rattle.job_trace.specs.TraceTexts.{entry_lines}
use Rattle.job_trace.proofs.RunTurns.{pieces_more}
use Rattle.job_trace.proofs.text.write_entries.Goals as goal

pub loop-entry-preserved : goal.loop-entry-preserved
loop-entry-preserved c = pieces_more (entry_lines c.args.names.now) c.args.entries.now c.loop-entry.entry-index c.entry-item.result _ _ _ c.loop-entry-test.true c.entry-item.is c.loop-entry.invariant c.in_ok-write_entry.ensures
