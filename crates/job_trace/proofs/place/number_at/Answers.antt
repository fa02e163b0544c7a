use Rattle.job_trace.proofs.RunNames.{none_at}
use Rattle.job_trace.proofs.place.number_at.Goals as goal

pub returns-in-None : goal.returns-in-None
returns-in-None c = none_at c.args.map.now c.args.label c.in-None.ensures.get
