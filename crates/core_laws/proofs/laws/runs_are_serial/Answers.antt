use Rattle.core_laws.proofs.Runs.{serial_runs}
use Rattle.core_laws.proofs.laws.runs_are_serial.Goals as goal

pub returns : goal.returns
returns c = serial_runs
