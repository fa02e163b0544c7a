use Rattle.job_iso.proofs.Laws.{lawful, yes_tells_map, no_has_no_map}
use Rattle.job_iso.proofs.law.iso_law.Goals as goal

pub returns : goal.returns
returns c = record { yes = yes_tells_map; no = no_has_no_map; lawful = lawful }
