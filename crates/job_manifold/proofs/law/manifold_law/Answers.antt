use Rattle.job_manifold.proofs.Laws.{lawful, no_is_exact, no_is_sound, undecided_tells_searches, yes_is_certified}
use Rattle.job_manifold.proofs.law.manifold_law.Goals as goal

pub returns : goal.returns
returns c = record { sound = no_is_sound; exact = no_is_exact; certified = yes_is_certified; searched = undecided_tells_searches; lawful = lawful }
