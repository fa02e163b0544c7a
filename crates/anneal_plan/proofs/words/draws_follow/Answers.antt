use Rattle.anneal_plan.proofs.WordLists.{draws_follow}
use Rattle.anneal_plan.proofs.words.draws_follow.Goals as goal

pub returns : goal.returns
returns c = draws_follow
