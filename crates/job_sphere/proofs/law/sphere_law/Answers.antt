use Rattle.job_sphere.proofs.Laws.{lawful, no_is_sound, yes_is_certified, verdict_tells_search, cycles_are_decided}
use Rattle.job_sphere.proofs.law.sphere_law.Goals as goal

pub returns : goal.returns
returns c = record { sound = no_is_sound; certified = yes_is_certified; searched = verdict_tells_search; circle = cycles_are_decided; lawful = lawful }
