use Rattle.job_trace.proofs.Laws.{lawful, yes_is_clean, verdict_tells_history}
use Rattle.job_trace.proofs.law.trace_law.Goals as goal

pub returns : goal.returns
returns c = record { clean = yes_is_clean; history = verdict_tells_history; lawful = lawful }
