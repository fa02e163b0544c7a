use Rattle.std.proofs.lemmas.Result.{on_ok_weaker}
use Rattle.std.proofs.Common.{refl}
use Rattle.job_trace.proofs.RunTurns.{entry_written}
use Rattle.job_trace.proofs.text.write_entry.Goals as goal

pub returns : goal.returns
returns c = on_ok_weaker c.write_named_flips.result (λ written. entry_written c.args.names.now c.args.entry.now c.worker.result c.seq.result _ c.flips-flips.result.now _ _ _ c.worker.ensures c.seq.ensures c.flips-flips.ensures refl c.in_ok-write_entry_line.ensures written) c.write_named_flips.ensures
