use Rattle.std.proofs.Common.{length}
use Rattle.stars.proofs.candidate_lists.+add_candidates.Given as goal

abbrev pub decreases-add_candidates : goal.decreases-add_candidates
decreases-add_candidates l = length l.labels.now
